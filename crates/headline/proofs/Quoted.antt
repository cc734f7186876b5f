-- The sentences, as they follow from the headline.
use Rattle.std.proofs.Common.{◌≡◌, ℕ, List, [], Some, Option, refl, subst}
use Rattle.eac_base.specs.Telling.{Told}
use Rattle.policy_limits.specs.Setup.{SetupValue}
use Rattle.keeper.specs.declared.rows.Row.{Row}
use Rattle.chip_slots.specs.declared.disk.ChipDisk.{Ghosts as DiskOf}
use Rattle.chip_events.specs.Acts.{ChipAct, IsIn}
use Rattle.eac_net.specs.ChipHistory.{ChipTells}
use Rattle.eac_net.specs.Items.{Ran}
use Rattle.eac_net.specs.Objects.{Outside}
use Rattle.eac_net.specs.SoFar.{begin}
use Rattle.eac_net.specs.State.{State}
use Rattle.eac_net.specs.Turn.{RowsStep}
use Rattle.eac_net.proofs.Causes.{faults_have_causes}
use Rattle.eac_net.proofs.EachItem.{each_item}
use Rattle.eac_net.proofs.GrantsOfGoodChains.{good_chains_are_granted}
use Rattle.eac_net.proofs.Missing.{no_key_is_missing}
use Rattle.eac_net.proofs.Served.{requests_are_served}
use Rattle.headline.specs.Headline.{Offices}
use Rattle.headline.specs.Sentences.{TellsRows, InTheEnd, InItsActs, AtItsTurn}
use Rattle.headline.specs.Sentences.{OneCertificateForANumber, AnsweredFromItsFirstDelivery, TheFirstBrokenRule, AGrantIsTheIntersection}
use Rattle.headline.specs.Sentences.{AcknowledgedIsNeverLost, DaysNeverFall, AReplacedPointNeverReturns}
use Rattle.headline.specs.Sentences.{NoFaultWithoutAFailure, NoKeyIsEverMissing, RequestsAreAnswered, GoodChainsAreGranted}
use Rattle.headline.proofs.Passports.{is_of_its_chip, at_the_chip}
use Rattle.headline.proofs.Places.{reaches}

-- ---- premises

told_so : {A : Type 0} (P : A → A → Type 0) (a b : Option A) (x y : A) → a ≡ Some x → b ≡ Some y → Told a b P → P x y
told_so {A} P a b x y e f h = subst (λ (z : Option A × Option A). Told z.0 z.1 P) (λ j. (e j, f j)) h

offices_of : (setup : SetupValue) (o o' : Outside) (rows : List Row) (items : List Ran) → TellsRows o o' rows → Told o.rows o'.rows (λ before after. before ≡ [] → Offices setup o o' after items) → Offices setup o o' rows items
offices_of setup o o' rows items t h = told_so (λ before after. before ≡ [] → Offices setup o o' after items) o.rows o'.rows [] rows t.none t.told h refl

module _ (setup : SetupValue) (o o' : Outside) (rows : List Row) (items : List Ran) (f : Offices setup o o' rows items) where
  in_the_end : (P : State → Type 0) → P f.tell.end → InTheEnd setup o rows items P
  in_the_end P holds = record { end = f.tell.end; history = f.tell.history; rows_are = f.tell.rows; holds = holds }

  at_its_turn : (i : Ran) → IsIn i items → (P : State → State → Type 0) → ((s t : State) → RowsStep setup s i t → P s t) → AtItsTurn setup o items i P
  at_its_turn i among P holds =
      let r = reaches (RowsStep setup) (begin o []) items f.tell.end i among f.tell.history in
      record { before = r.before; after = r.after; split = r.split; state = r.state; history = r.until; next = r.next; step = r.now; holds = holds r.state r.next r.now }

in_its_acts : {D : Type 0} (G : DiskOf D) (chip : ℕ) (d d' : D) (items : List Ran) (t : ChipTells G chip d d' items) (P : List ChipAct → Type 0) → P t.last.acts → InItsActs G chip d items P
in_its_acts G chip d d' items t P holds = record { last = t.last; history = t.history; holds = holds }

module _ {D : Type 0} (G : DiskOf D) where
  -- ---- request numbers

  pub one_certificate_for_a_number : OneCertificateForANumber G
  one_certificate_for_a_number setup o o' disks disks' acks events answers h rows t desk = ((offices_of setup o o' rows h.run.items t h.offices).desks desk).one

  pub answered_from_its_first_delivery : AnsweredFromItsFirstDelivery G
  answered_from_its_first_delivery setup o o' disks disks' acks events answers h rows t =
      let f = offices_of setup o o' rows h.run.items t h.offices in
      in_the_end setup o o' rows h.run.items f _ (λ desk e among. (f.desks desk).answered e among)

  pub the_first_broken_rule : TheFirstBrokenRule G
  the_first_broken_rule setup o o' disks disks' acks events answers h rows t =
      let f = offices_of setup o o' rows h.run.items t h.offices in
      in_the_end setup o o' rows h.run.items f _ (λ desk. (f.desks desk).refused)

  -- ---- grants

  pub a_grant_is_the_intersection : AGrantIsTheIntersection G
  a_grant_is_the_intersection setup o o' disks disks' acks events answers h = h.grants

  -- ---- chips

  pub acknowledged_is_never_lost : AcknowledgedIsNeverLost G
  acknowledged_is_never_lost setup o o' disks disks' acks events answers h chip d d' t =
      let p = h.chips chip d d' t.was t.is t.tells t.blank in
      in_its_acts G chip d d' h.run.items p.tell _ p.acknowledged

  pub days_never_fall : DaysNeverFall G
  days_never_fall setup o o' disks disks' acks events answers h chip d d' t =
      let p = h.chips chip d d' t.was t.is t.tells t.blank in
      in_its_acts G chip d d' h.run.items p.tell _ p.days

  pub a_replaced_point_never_returns : AReplacedPointNeverReturns G
  a_replaced_point_never_returns setup o o' disks disks' acks events answers h chip d d' t =
      let p = h.chips chip d d' t.was t.is t.tells t.blank in
      in_its_acts G chip d d' h.run.items p.tell _ p.points

  -- ---- completeness

  pub no_fault_without_a_failure : NoFaultWithoutAFailure G
  no_fault_without_a_failure setup o o' disks disks' acks events answers h i f among fault =
      faults_have_causes setup i f (each_item setup _ _ h.run.items i h.run.ran among).answers fault

  pub no_key_is_ever_missing : NoKeyIsEverMissing G
  no_key_is_ever_missing setup o o' disks disks' acks events answers h rows t i reference among fault =
      let f = offices_of setup o o' rows h.run.items t h.offices in
      let r = reaches (RowsStep setup) (begin o []) h.run.items f.tell.end i among f.tell.history in
      no_key_is_missing setup r.state r.next i reference (each_item setup _ _ h.run.items i h.run.ran among).answers r.now fault

  pub requests_are_answered : RequestsAreAnswered G
  requests_are_answered setup o o' disks disks' acks events answers h rows t i among none some =
      let f = offices_of setup o o' rows h.run.items t h.offices in
      at_its_turn setup o o' rows h.run.items f i among _ (λ s t step p id request delivers. requests_are_served setup s t i p id request step delivers none some)

  pub good_chains_pass : GoodChainsAreGranted G
  good_chains_pass setup o o' disks disks' acks events answers h chip d d' t terminal i among event none some =
      let p = h.chips chip d d' t.was t.is t.tells t.blank in
      at_the_chip G chip d h.run.items p.tell.last i _ among (is_of_its_chip chip terminal i.event event) p.tell.history
      (λ c c' turn t links v w shown good. good_chains_are_granted setup chip terminal c c' i t links v w (each_item setup _ _ h.run.items i h.run.ran among).answers turn shown good none some)
