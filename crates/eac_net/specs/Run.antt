-- Events run one after another, from the objects before them to those after them (this project's own).
use Rattle.std.specs.Prelude.{◌≡◌, ℕ, List, [], ◌∷◌, ◌++◌, map, Option, Some, None, Bool, true, false, slice_get}
use Rattle.std.specs.List.{All}
use Rattle.eac_base.specs.Causes.{Rose}
use Rattle.eac_base.specs.Telling.{Told}
use Rattle.signature_provider.specs.Provider.{Says}
use Rattle.policy_limits.specs.Setup.{SetupValue}
use Rattle.keeper.specs.declared.rows.Row.{Row}
use Rattle.issue_core.specs.declared.rule.Rule.{Rule}
use Rattle.issue_core.specs.Registering.Desk.{Asked, RegisterFault, Deliveries, register, RegisterStory, entries_of}
use Rattle.issue_core.specs.Issuing.Desk.{issuing, IssuingStory}
use Rattle.issue_core.specs.Issuing.Rows.{entries_at}
use Rattle.ledger.specs.Ledger.{Delivery, entries}
use Rattle.eac_base.specs.declared.acks.Ack.{Ack}
use Rattle.chip_slots.specs.declared.disk.ChipDisk.{Ghosts as DiskOf}
use Rattle.eac_net.specs.Asking.{asked_on}
use Rattle.eac_net.specs.ChipHistory.{ChipTells}
use Rattle.eac_net.specs.Items.{Ran, events_of, answers_of, asked_of, acks_of}
use Rattle.eac_net.specs.Lawful.{AreLawful}
use Rattle.eac_net.specs.Objects.{Outside, first_moment, moment_of}
use Rattle.eac_net.specs.SoFar.{IsStart, IsFresh, IsBlankDisk, begin}
use Rattle.eac_net.specs.State.{State}
use Rattle.eac_net.specs.Steps.{later_day}
use Rattle.eac_net.specs.Tracing.{IsTracedYes}
use Rattle.eac_net.specs.Turn.{History}
use Rattle.eac_net.specs.Untold.{AreRan}
use Rattle.eac_net.specs.Verdicts.{Verdict, said_of}
use Rattle.eac_net.specs.declared.answer.Answer.{Answer}
use Rattle.eac_net.specs.declared.event.Event.{Event}
use Rattle.eac_net.specs.declared.event.Event.TheVariants as events
use Rattle.eac_net.specs.declared.packet.Packet.{Packet}

-- ---- the two rules of verdicts

-- what got a yes the provider says at the end, and what got a no it didn't say at the beginning
abbrev pub IsTrueVerdict : (first last : Says) → Verdict → Bool → Type 0
IsTrueVerdict first last v true = said_of last v.question ≡ true
IsTrueVerdict first last v false = said_of first v.question ≡ false

abbrev pub AreTrue : (first last : Says) → List Verdict → Type 0
AreTrue first last verdicts = All (λ v. IsTrueVerdict first last v v.yes) verdicts

-- ---- what the `ask` events ask, each on the day in force

abbrev pub asked_at : Option ℕ → (reference bytes : List ℕ) → List Asked
asked_at None reference bytes = []
asked_at (Some today) reference bytes = asked_on today reference bytes ∷ []

abbrev pub asks_of : Option ℕ → Event → List Asked
asks_of today (events.Ask reference bytes) = asked_at today reference bytes
asks_of today (events.Day day) = []
asks_of today (events.Found authority) = []
asks_of today (events.Link authority) = []
asks_of today (events.Trust party authority) = []
asks_of today (events.Apply holder authority root) = []
asks_of today (events.Fetch party desk) = []
asks_of today (events.Push desk party) = []
asks_of today (events.Send from to bytes) = []
asks_of today (events.Deliver packet) = []
asks_of today (events.Make chip authority) = []
asks_of today (events.Present chip terminal) = []
asks_of today (events.Import chip bytes) = []
asks_of today (events.Look chip) = []

abbrev pub asks : Option ℕ → List Event → List Asked
asks today [] = []
asks today (e ∷ es) = asks_of today e ++ asks (later_day today e) es

abbrev pub cases : Deliveries → List Asked
cases deliveries = map (λ (d : Delivery Asked (List ℕ) Rule RegisterFault). d.case_of) deliveries

-- ---- a run

-- Where the rows are told, one state to which the items lead from the rows before. The deliveries to the register and to
-- each desk are one story of it, and its rows there are that story's ledger; its verdicts are those of the items, and each
-- yes on a certificate's body is traced to a row, or to a call whose adding the keeper failed.
pub record RowsTell (setup : SetupValue) (o o' : Outside) (before after : List Row) (items : List Ran) : Type 0 where
  pub end : State
  pub history : History setup (begin o before) items end
  pub rows : end.rows ≡ after
  pub keeper : end.keeper ≡ o'.keeper_faults
  pub provider : end.provider ≡ o'.provider_faults
  pub verdicts : end.verdicts ≡ asked_of items
  pub asked : cases end.register ≡ asks None (events_of items)
  pub register_story : RegisterStory (entries_of before) end.register
  pub register_ledger : entries_of after ≡ entries_of before ++ entries register end.register
  pub desk_stories : (desk : ℕ) → IssuingStory o'.says (entries_at desk before) (end.desks desk)
  pub desk_ledgers : (desk : ℕ) → entries_at desk after ≡ entries_at desk before ++ entries issuing (end.desks desk)
  pub lawful : AreLawful setup after
  pub traced : IsFresh o → All (IsTracedYes after end.lost) (asked_of items)
  pub found_again : ¬ Rose o.keeper_faults o'.keeper_faults → end.lost ≡ []

-- These events were run in order from no day, no packet and no import on, with these answers, and these imports were
-- acknowledged. With no premise: what each answer is and its cause, from moment to moment, and that what was asked obeys both
-- rules. Where the rows are told afterwards their history; and of each chip whose disk tells and was blank, that chip's.
pub record RunOf {D : Type 0} (G : DiskOf D) (setup : SetupValue) (o o' : Outside) (disks disks' : List D) (acks : List Ack)
    (events : List Event) (answers : List (Option Answer)) : Type 0 where
  pub items : List Ran
  pub events_are : events_of items ≡ events
  pub answers_are : answers_of items ≡ answers
  pub acks_are : acks ≡ acks_of items
  pub day : Option ℕ
  pub packets : List Packet
  pub imports : ℕ → ℕ
  pub ran : AreRan setup (first_moment o) items (moment_of day packets imports o')
  pub verdicts : AreTrue o.says o'.says (asked_of items)
  pub told : Told o.rows o'.rows (λ before after. IsStart setup o before → RowsTell setup o o' before after items)
  pub chips : (chip : ℕ) (d d' : D) → slice_get disks chip ≡ Some d → slice_get disks' chip ≡ Some d' → G.tells d →
      IsBlankDisk G d → ChipTells G chip d d' items
