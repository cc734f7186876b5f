-- A fault that an event of a chip tells was the keeper's, or a count of the chip's disk or of the provider rose.
use Rattle.std.proofs.Common.{◌≡◌, ℕ, List, [], ◌∷◌, Some, None, Ok, Err, inl, inr, refl, sym, ap, ◌∙◌, subst}
use Rattle.std.specs.declared.option.Option.{Option}
use Rattle.std.specs.declared.result.Result.{Result}
use Rattle.eac_base.specs.Causes.{Rose}
use Rattle.eac_base.specs.declared.acks.Ack.{Ack}
use Rattle.eac_base.specs.declared.failures.NoMemory.{NoMemory}
use Rattle.cvc_grammar.specs.ReadingOrder.{read_cert}
use Rattle.cvc_grammar.specs.declared.certificate.Cert.{Cert}
use Rattle.cvc_grammar.specs.declared.refusal.CvcRefusal.{CvcRefusal}
use Rattle.chip_slots.specs.declared.answers.ChipRefusal.{ChipRefusal}
use Rattle.chip_slots.specs.declared.answers.ChipRefusal.TheVariants as refusals
use Rattle.chip_events.specs.declared.answers.ImportAnswer.{ImportAnswer}
use Rattle.chip_events.specs.declared.answers.ImportAnswer.TheVariants as imports
use Rattle.chip_events.specs.declared.answers.Looked.{Looked}
use Rattle.chip_events.specs.declared.answers.Looked.TheVariants as looks
use Rattle.chip_events.specs.declared.answers.MakeAnswer.{MakeAnswer}
use Rattle.chip_events.specs.declared.answers.MakeAnswer.TheVariants as makes
use Rattle.chip_events.specs.declared.answers.Shown.{Shown}
use Rattle.chip_events.specs.declared.answers.ShownEnd.{ShownEnd}
use Rattle.chip_events.specs.declared.answers.ShownEnd.TheVariants as ends
use Rattle.chip_events.specs.declared.answers.Taken.{Taken}
use Rattle.chip_events.specs.DiskTurns.{DiskKnown, HasCounts}
use Rattle.chip_events.specs.Told.{ChipTold, ChipPart, found_so}
use Rattle.chip_events.specs.Openings.{Opens}
use Rattle.chip_events.specs.Imports.{InHand}
use Rattle.chip_events.specs.Givings.{Gives, AnsweredBy, GivesAll, EndsAt as Stops, ShowsAll, in_hand, put_back}
use Rattle.chip_events.specs.Makings.{MakesSo, Makes}
use Rattle.chip_events.specs.Events.{Looks, IsOpenedFirst, ImportsOne}
use Rattle.chip_events.specs.Verdicts.{Verdict}
use Rattle.eac_net.specs.ChipSays.{OfChip}
use Rattle.eac_net.specs.ChipTurn.{IsTold, told_by, MakesBy, shown_as, ShowsThem, ShowsBy, PresentTurn, ChipTurn}
use Rattle.eac_net.specs.Chips.{chip_in}
use Rattle.eac_net.specs.Handed.{Request, Handed, Unasked, Certs, NoneFor, KeeperFailed, NoRoom, IsHandedFrom}
use Rattle.eac_net.specs.Items.{Ran}
use Rattle.eac_net.specs.Laws.{fault_at, MakingFails, EndFails, HasFault, HasRisen}
use Rattle.eac_net.specs.declared.answer.Answer.{Answer}
use Rattle.eac_net.specs.declared.answer.Answer.TheVariants as answers
use Rattle.eac_net.specs.declared.answer.Fault.{Fault}
use Rattle.eac_net.specs.declared.answer.Fault.TheVariants as faults
use Rattle.eac_net.specs.declared.answer.Presented.TheVariants as presented
use Rattle.eac_net.specs.declared.event.Event.{Event}
use Rattle.eac_net.specs.declared.event.Event.TheVariants as events

-- ---- the counts of the disk and of the provider

-- one of the two counts rose
abbrev CountRises : Fault → (before now : ℕ × ℕ) → Type 0
CountRises faults.Disk before now = Rose before.0 now.0
CountRises faults.Provider before now = Rose before.1 now.1
CountRises faults.Keeper before now = ⊥
CountRises (faults.Key reference) before now = ⊥

abbrev hand_counts : InHand → ℕ × ℕ
hand_counts w = (w.chip.faults, w.provider)

abbrev part_counts : ChipPart → ℕ × ℕ
part_counts s = (s.chip.faults, s.provider)

-- a keeper's fault is one of what was handed
abbrev pub ChipRises : Fault → Handed → ChipPart → ChipPart → Type 0
ChipRises faults.Keeper handed s s' = (request : Request) × (handed ≡ KeeperFailed request)
ChipRises faults.Disk handed s s' = Rose s.chip.faults s'.chip.faults
ChipRises faults.Provider handed s s' = Rose s.provider s'.provider
ChipRises (faults.Key reference) handed s s' = ⊥

by_counts : (f : Fault) (handed : Handed) (s s' : ChipPart) → CountRises f (part_counts s) (part_counts s') → ChipRises f handed s s'
by_counts faults.Disk handed s s' h = h
by_counts faults.Provider handed s s' h = h
by_counts faults.Keeper handed s s' h = absurd h
by_counts (faults.Key reference) handed s s' h = absurd h

-- from the counts that stood before
rises_from : (f : Fault) (a b c : ℕ × ℕ) → b ≡ a → CountRises f b c → CountRises f a c
rises_from f a b c is h = subst (λ (x : ℕ × ℕ). CountRises f x c) is h

disk_rises : (f : Fault) (a b : ℕ × ℕ) → faults.Disk ≡ f → Rose a.0 b.0 → CountRises f a b
disk_rises f a b is h = subst (λ (g : Fault). CountRises g a b) is h

provider_rises : (f : Fault) (a b : ℕ × ℕ) → faults.Provider ≡ f → Rose a.1 b.1 → CountRises f a b
provider_rises f a b is h = subst (λ (g : Fault). CountRises g a b) is h

-- what was told at the end was told of this
told_fails : (f : Fault) (answer said : Option Answer) → IsTold answer said → HasFault f answer → HasFault f said
told_fails f answer said (inl e) h = subst (HasFault f) e h
told_fails f answer said (inr e) h = absurd (subst (HasFault f) e h)

-- ---- one call

open_rises : (f : Fault) (c c' : ChipTold) (p : ℕ) (e : ChipRefusal) → Opens c (Err e) c' → fault_at e ≡ Some f → CountRises f (c.faults, p) (c'.faults, p)
open_rises f c c' p refusals.DiskFault h is = let same : faults.Disk ≡ f = cc in disk_rises f (c.faults, p) (c'.faults, p) same h.failed.cause
open_rises f c c' p refusals.ProviderFault h is = absurd h
open_rises f c c' p refusals.NoChip h is = absurd (cc (is))
open_rises f c c' p refusals.NeedsOpen h is = absurd h
open_rises f c c' p (refusals.Syntax e) h is = absurd h
open_rises f c c' p (refusals.Refused k) h is = absurd h
open_rises f c c' p refusals.Worn h is = absurd h

make_rises : (f : Fault) (read : Result Cert CvcRefusal) (day : ℕ) (c c' : ChipTold) (p : ℕ) (answer : MakeAnswer) → MakesSo read day c answer c' → MakingFails f answer → CountRises f (c.faults, p) (c'.faults, p)
make_rises f read day c c' p makes.DiskFault (memory, root, inl h) is = disk_rises f (c.faults, p) (c'.faults, p) (sym is) h.failed.cause
make_rises f read day c c' p makes.DiskFault (memory, root, inr h) is = disk_rises f (c.faults, p) (c'.faults, p) (sym is) h.failed.cause
make_rises f read day c c' p (makes.Made holder) h is = absurd is
make_rises f read day c c' p makes.Unfounded h is = absurd is
make_rises f read day c c' p makes.WrongSize h is = absurd is
make_rises f read day c c' p makes.WasMade h is = absurd is

module _ (chip : ℕ) (f : Fault) where
  give_rises : (w : InHand) (bytes : List ℕ) (e : ChipRefusal) (w' : InHand) → Gives chip w bytes (Err e) w' → fault_at e ≡ Some f → CountRises f (hand_counts w) (hand_counts w')
  give_rises w bytes refusals.DiskFault w' h is = let same : faults.Disk ≡ f = cc in disk_rises f (hand_counts w) (hand_counts w') same h.1.cause
  give_rises w bytes refusals.ProviderFault w' h is = let same : faults.Provider ≡ f = cc in provider_rises f (hand_counts w) (hand_counts w') same h.1.cause
  give_rises w bytes refusals.NoChip w' h is = absurd h.1
  give_rises w bytes refusals.NeedsOpen w' h is = absurd h.1
  give_rises w bytes (refusals.Syntax e) w' h is = absurd (cc (is))
  give_rises w bytes (refusals.Refused k) w' h is = absurd (cc (is))
  give_rises w bytes refusals.Worn w' h is = absurd (cc (is))

  -- those that were taken leave both counts
  all_rises : (w : InHand) (certs : List (List ℕ)) (taken : List Taken) (e : ChipRefusal) (w' : InHand) → GivesAll chip w certs taken (AnsweredBy e) w' → fault_at e ≡ Some f → CountRises f (hand_counts w) (hand_counts w')
  all_rises w (b ∷ certs) (t ∷ taken) e w' (mid, gives, rest) is =
      let same : hand_counts mid ≡ hand_counts w = λ j. (gives.1.faults j, gives.1.provider j) in
      rises_from f (hand_counts w) (hand_counts mid) (hand_counts w') same (all_rises mid certs taken e w' rest is)
  all_rises w (b ∷ certs) [] e w' h is = give_rises w b e w' h is
  all_rises w [] [] e w' h is = absurd h
  all_rises w [] (t ∷ taken) e w' h is = absurd h

  -- ---- one event

  module _ (s s' : ChipPart) where
    -- after an opening
    first_same : (w : InHand) → IsOpenedFirst s w → hand_counts w ≡ part_counts s
    first_same w h = ap hand_counts h.hand ∙ (λ j. (h.opens.quiet.faults j, s.provider))

    back_rises : (w left : InHand) → hand_counts w ≡ part_counts s → s' ≡ put_back left → CountRises f (hand_counts w) (hand_counts left) → CountRises f (part_counts s) (part_counts s')
    back_rises w left is next h = subst (λ (x : ChipPart). CountRises f (part_counts s) (part_counts x)) (sym next) (rises_from f (part_counts s) (hand_counts w) (hand_counts left) is h)

    unopened_rises : (e : ChipRefusal) (c : ChipTold) → Opens s.chip (Err e) c → s' ≡ record s { chip = c } → fault_at e ≡ Some f → CountRises f (part_counts s) (part_counts s')
    unopened_rises e c h next is = subst (λ (x : ChipPart). CountRises f (part_counts s) (part_counts x)) (sym next) (open_rises f s.chip c s.provider e h is)

    import_rises : (bytes : List ℕ) (result : Result ImportAnswer NoMemory) → ImportsOne chip bytes s result s' → HasFault f (told_by answers.Imported result) → CountRises f (part_counts s) (part_counts s')
    import_rises bytes (Ok (imports.NotOpened e)) (c, opens, next) h = unopened_rises e c opens next h
    import_rises bytes (Ok (imports.Took taken day)) x h = absurd h
    import_rises bytes (Ok (imports.NotTaken e)) (left, g) h = back_rises g.hand left (first_same g.hand g.first) g.next (give_rises g.hand bytes e left g.gives h)
    import_rises bytes (Err e) x h = absurd h

    look_rises : (result : Result Looked NoMemory) → Looks s.chip result s'.chip → s' ≡ record s { chip = s'.chip } → HasFault f (told_by answers.Looked result) → CountRises f (part_counts s) (part_counts s')
    look_rises (Ok (looks.Read state generation)) x rest h = absurd h
    look_rises (Ok (looks.NotOpened e)) x rest h = unopened_rises e s'.chip x rest h
    look_rises (Err e) x rest h = absurd h

    made_rises : (read : Result Cert CvcRefusal) (day : ℕ) (answer : MakeAnswer) → MakesSo read day s.chip answer s'.chip → s' ≡ record s { chip = s'.chip } → MakingFails f answer → CountRises f (part_counts s) (part_counts s')
    made_rises read day answer x rest h = subst (λ (y : ChipPart). CountRises f (part_counts s) (part_counts y)) (sym rest) (make_rises f read day s.chip s'.chip s.provider answer x h)

    shown_rises : (w left : InHand) (certs : List (List ℕ)) (taken : List Taken) (end : ShownEnd) → hand_counts w ≡ part_counts s → s' ≡ put_back left → Stops chip w certs taken end left → EndFails f end → CountRises f (part_counts s) (part_counts s')
    shown_rises w left certs taken (ends.AllTaken grant) same next x h = absurd h
    shown_rises w left certs taken (ends.NotTaken e) same next x h = back_rises w left same next (all_rises w certs taken e left x h)

    showing_rises : (w : InHand) (certs : List (List ℕ)) (answer : Option Answer) → hand_counts w ≡ part_counts s → ShowsThem chip w certs answer s' → HasFault f answer → CountRises f (part_counts s) (part_counts s')
    showing_rises w certs answer same x h = by x.result x.shows (told_fails f answer (told_by shown_as x.result) x.told h)
      where
        by : (result : Result Shown NoMemory) → ShowsAll chip w certs result x.left → HasFault f (told_by shown_as result) → CountRises f (part_counts s) (part_counts s')
        by (Ok shown) y k = shown_rises w x.left certs shown.taken shown.end same x.next y k
        by (Err e) y k = absurd k

-- ---- the event

module _ (f : Fault) (answer : Option Answer) (s s' : ChipPart) (h : HasFault f answer) where
  -- it was told of the keeper
  keeper_failed : (request : Request) → IsTold answer (Some (answers.Failed faults.Keeper)) → ChipRises f (KeeperFailed request) s s'
  keeper_failed request told =
      let is : faults.Keeper ≡ f = told_fails f answer (Some (answers.Failed faults.Keeper)) told h in
      subst (λ (g : Fault). ChipRises g (KeeperFailed request) s s') is (request, refl)

  make_caused : (chip day : ℕ) (handed : Handed) → MakesBy day handed s answer s' → ChipRises f handed s s'
  make_caused chip day Unasked x = absurd (told_fails f answer None x.told h)
  make_caused chip day (Certs request certs) x = by_counts f (Certs request certs) s s' (by x.result x.makes (told_fails f answer (told_by answers.Made x.result) x.told h))
    where
      by : (result : Result MakeAnswer NoMemory) → Makes x.root day s.chip result s'.chip → HasFault f (told_by answers.Made result) → CountRises f (part_counts s) (part_counts s')
      by (Ok made) y k = made_rises chip f s s' (read_cert x.root) day made y x.rest k
      by (Err e) y k = absurd k
  make_caused chip day (NoneFor request) x = absurd (told_fails f answer (Some (answers.Made makes.Unfounded)) x.told h)
  make_caused chip day (KeeperFailed request) x = keeper_failed request x.told
  make_caused chip day (NoRoom request) x = absurd (told_fails f answer None x.told h)

  shows_caused : (chip : ℕ) (w : InHand) (handed : Handed) → hand_counts w ≡ part_counts s → ShowsBy chip w handed answer s' → ChipRises f handed s s'
  shows_caused chip w Unasked same x = absurd (told_fails f answer None x.told h)
  shows_caused chip w (Certs request certs) same x = by_counts f (Certs request certs) s s' (showing_rises chip f s s' w certs answer same x h)
  shows_caused chip w (NoneFor request) same x = absurd (told_fails f answer (Some (answers.Presented presented.NoChain)) x.told h)
  shows_caused chip w (KeeperFailed request) same x = keeper_failed request x.told
  shows_caused chip w (NoRoom request) same x = absurd (told_fails f answer None x.told h)

  present_caused : (chip terminal : ℕ) (handed : Handed) → PresentTurn chip terminal s handed answer s' → ChipRises f handed s s'
  present_caused chip terminal handed (inl x) = shows_caused chip (in_hand s x.now x.read) handed (λ j. (x.opens.quiet.faults j, s.provider)) x.shows
  present_caused chip terminal handed (inr (inl x)) =
      by_counts f handed s s' (unopened_rises chip f s s' x.refusal s'.chip x.opens x.rest (told_fails f answer (Some (answers.Presented (presented.NotOpened x.refusal))) x.told h))
  present_caused chip terminal handed (inr (inr x)) = absurd (subst (HasFault f) x.none h)

  pub turn_caused : (day : ℕ) (e : Event) (handed : Handed) → ChipTurn day e handed answer s s' → ChipRises f handed s s'
  turn_caused day (events.Make chip authority) handed x = make_caused chip day handed x.makes
  turn_caused day (events.Present chip terminal) handed x = present_caused chip terminal handed x
  turn_caused day (events.Import chip bytes) handed x =
      by_counts f handed s s' (import_rises chip f s s' bytes x.result x.imports (told_fails f answer (told_by answers.Imported x.result) x.told h))
  turn_caused day (events.Look chip) handed x =
      by_counts f handed s s' (look_rises chip f s s' x.result x.looks x.rest (told_fails f answer (told_by answers.Looked x.result) x.told h))
  turn_caused day (events.Day today) handed x = absurd x
  turn_caused day (events.Ask reference bytes) handed x = absurd x
  turn_caused day (events.Found authority) handed x = absurd x
  turn_caused day (events.Link authority) handed x = absurd x
  turn_caused day (events.Trust party authority) handed x = absurd x
  turn_caused day (events.Apply holder authority root) handed x = absurd x
  turn_caused day (events.Fetch party desk) handed x = absurd x
  turn_caused day (events.Send from to bytes) handed x = absurd x
  turn_caused day (events.Push desk party) handed x = absurd x
  turn_caused day (events.Deliver packet) handed x = absurd x

-- ---- an item

-- as what is known of it has it
item_risen : (chip : ℕ) (i : Ran) (f : Fault) (c c' : ChipTold) → chip_in i.event ≡ Some chip → HasCounts (i.from.disks chip) (i.from.imports chip) c → HasCounts (i.to.disks chip) (i.to.imports chip) c' →
    IsHandedFrom i.from.parties.keeper i.to.parties.keeper i.handed → (acks : List Ack) (verdicts : List Verdict) →
    ChipRises f i.handed (found_so c i.from.parties.provider) (record { chip = c'; acks = acks; verdicts = verdicts; provider = i.to.parties.provider }) → HasRisen f i
item_risen chip i faults.Disk c c' own before after handed acks verdicts h =
    let was : c.faults ≡ (i.from.disks chip).faults = ap (λ (k : DiskKnown). k.faults) before.disk in
    let now : c'.faults ≡ (i.to.disks chip).faults = ap (λ (k : DiskKnown). k.faults) after.disk in
    (chip, own, subst (λ (x : ℕ × ℕ). Rose x.0 x.1) (λ j. (was j, now j)) h)
item_risen chip i faults.Keeper c c' own before after handed acks verdicts h = (subst (IsHandedFrom i.from.parties.keeper i.to.parties.keeper) h.1 handed).1
item_risen chip i faults.Provider c c' own before after handed acks verdicts h = h
item_risen chip i (faults.Key reference) c c' own before after handed acks verdicts h = tt

module _ (chip : ℕ) (i : Ran) (f : Fault) (x : OfChip chip i) (h : HasFault f i.answer) where
  item_caused : ChipRises f i.handed (found_so x.some i.from.parties.provider) (record { chip = x.then_some; acks = i.acks; verdicts = x.turn.verdicts; provider = i.to.parties.provider })
  item_caused = turn_caused f i.answer (found_so x.some i.from.parties.provider) (record { chip = x.then_some; acks = i.acks; verdicts = x.turn.verdicts; provider = i.to.parties.provider }) h x.turn.day i.event i.handed x.turn.turn

  pub chip_fault_caused : chip_in i.event ≡ Some chip → HasRisen f i
  chip_fault_caused own = item_risen chip i f x.some x.then_some own x.turn.before x.turn.after x.handed i.acks x.turn.verdicts item_caused

-- no key is told of by a chip
pub chip_no_key : (chip : ℕ) (i : Ran) (reference : List ℕ) → OfChip chip i → HasFault (faults.Key reference) i.answer → ⊥
chip_no_key chip i reference x h = item_caused chip i (faults.Key reference) x h
