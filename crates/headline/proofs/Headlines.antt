-- A run is all that the headline says.
use Rattle.std.proofs.Common.{◌≡◌, ◌&&◌, ℕ, List, [], Bool, true, false, refl, ap, ◌∙◌, subst}
use Rattle.std.specs.Str.{bytes_eq}
use Rattle.eac_base.proofs.Tellings.{told_more}
use Rattle.eac_base.proofs.EqualBytes.{bytes_eq-true, bytes_eq-self}
use Rattle.policy_limits.specs.Setup.{SetupValue}
use Rattle.keeper.specs.declared.rows.Row.{Row}
use Rattle.issue_core.specs.Issuing.Desk.{issuing, is_signed}
use Rattle.issue_core.specs.Issuing.Rows.{entries_at}
use Rattle.issue_core.specs.Registering.Desk.{Request, register, unsigned, same_request, entries_of}
use Rattle.chip_slots.specs.declared.disk.ChipDisk.{Ghosts as DiskOf}
use Rattle.eac_net.specs.ChipSays.{ChipSays, OfChip}
use Rattle.eac_net.specs.Items.{Ran}
use Rattle.eac_net.specs.Moment.{Moment}
use Rattle.eac_net.specs.Objects.{Outside}
use Rattle.eac_net.specs.Run.{RowsTell}
use Rattle.eac_net.specs.SoFar.{IsStart}
use Rattle.eac_net.specs.Untold.{AreRan}
use Rattle.eac_net.specs.declared.event.Event.{Event}
use Rattle.eac_net.specs.declared.event.Event.TheVariants as events
use Rattle.eac_net.proofs.EachItem.{each_item}
use Rattle.eac_net.proofs.Grants.{grants_are_of_the_chain}
use Rattle.headline.specs.Headline.{GrantsAreIntersections, Offices}
use Rattle.headline.specs.Sentences.{RunsKeepTheirWord}
use Rattle.headline.proofs.Empty.{none_at_the_start}
use Rattle.headline.proofs.Passports.{passport}
use Rattle.headline.proofs.Words.{keeps_its_word}

-- ---- requests that are the same

request_same : (q : Request) → same_request q q ≡ true
request_same q = ap (λ (b : Bool). b && bytes_eq q.1 q.1) (bytes_eq-self q.0) ∙ bytes_eq-self q.1

first_of_both : (a b : Bool) → (a && b) ≡ true → a ≡ true
first_of_both true b is = refl
first_of_both false b is = absurd (cc (is))

second_of_both : (a b : Bool) → (a && b) ≡ true → b ≡ true
second_of_both true b is = is
second_of_both false b is = absurd (cc (is))

request_is : (a b : Request) → same_request a b ≡ true → a ≡ b
request_is a b is =
    let reference : a.0 ≡ b.0 = bytes_eq-true a.0 b.0 (first_of_both (bytes_eq a.0 b.0) (bytes_eq a.1 b.1) is) in
    let bytes : a.1 ≡ b.1 = bytes_eq-true a.1 b.1 (second_of_both (bytes_eq a.0 b.0) (bytes_eq a.1 b.1) is) in
    λ j. (reference j, bytes j)

-- ---- parties

module _ (setup : SetupValue) (o o' : Outside) (rows : List Row) (items : List Ran) where
  offices : RowsTell setup o o' [] rows items → Offices setup o o' rows items
  offices tell = record {
    tell = tell;
    desks = λ desk. keeps_its_word issuing (is_signed o'.says) bytes_eq-self bytes_eq-true (tell.end.desks desk) (entries_at desk rows) (tell.desk_stories desk) (tell.desk_ledgers desk);
    registers = keeps_its_word register unsigned request_same request_is tell.end.register (entries_of rows) tell.register_story tell.register_ledger;
  }

  pub offices_from : (before : List Row) → (IsStart setup o before → RowsTell setup o o' before rows items) → before ≡ [] → Offices setup o o' rows items
  offices_from before tell none = offices (subst (λ (l : List Row). IsStart setup o l → RowsTell setup o o' l rows items) none tell (none_at_the_start setup o))

-- ---- grants

pub of_its_chip : (chip terminal : ℕ) (event : Event) (i : Ran) → event ≡ events.Present chip terminal → ChipSays event i → OfChip chip i
of_its_chip chip terminal event i is says = subst (λ (e : Event). ChipSays e i) is says

pub grants : (setup : SetupValue) (first last : Moment) (items : List Ran) → AreRan setup first items last → GrantsAreIntersections items
grants setup first last items ran chip terminal i grant among g =
    let says : OfChip chip i = of_its_chip chip terminal i.event i g.event_is (each_item setup first last items i ran among).answers.chips in
    (says.some, grants_are_of_the_chain chip terminal says.some says.then_some i grant says.turn g.event_is g.ends)

-- ---- the run

pub runs_keep_their_word : {D : Type 0} (G : DiskOf D) → RunsKeepTheirWord G
runs_keep_their_word G setup o o' disks disks' acks events answers run = record {
  run = run;
  grants = grants setup _ _ run.items run.ran;
  offices = told_more (λ before after. IsStart setup o before → RowsTell setup o o' before after run.items) (λ before after. before ≡ [] → Offices setup o o' after run.items)
      o.rows o'.rows run.told (λ before after tell none. offices_from setup o o' after run.items before tell none);
  chips = λ chip d d' was is tells blank. passport G chip d d' run.items (run.chips chip d d' was is tells blank) acks run.acks_are;
}
