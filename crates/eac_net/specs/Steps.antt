-- One event as the program runs it: from the objects before it to those after it (this project's own).
use Rattle.std.specs.Prelude.{◌≡◌, ◌++◌, ℕ, List, Option, Some, None, IsSome, IsTrue, Result, Ok, Err}
use Rattle.eac_base.specs.Telling.{Told}
use Rattle.policy_limits.specs.Setup.{SetupValue, is_inspection_system}
use Rattle.keeper.specs.declared.rows.Row.{Row}
use Rattle.issue_core.specs.Issuing.Signed.{Pair}
use Rattle.eac_net.specs.Acting.{AuthorityFits, TrustFits, ApplyFits}
use Rattle.eac_net.specs.Asking.{AskFits}
use Rattle.eac_net.specs.Chips.{HasChip}
use Rattle.eac_net.specs.Delivering.{DeliverFits}
use Rattle.eac_net.specs.Items.{Ran}
use Rattle.eac_net.specs.Journal.{answer_text}
use Rattle.eac_net.specs.Objects.{Outside, moment_at, IsAt, IsTracedAt}
use Rattle.eac_net.specs.Packets.{AreBetween}
use Rattle.eac_net.specs.Parties.{is_party_of}
use Rattle.eac_net.specs.Pushing.{PushFits}
use Rattle.eac_net.specs.Sending.{FetchFits, SendFits}
use Rattle.eac_net.specs.State.{State}
use Rattle.eac_net.specs.Tracing.{Stay}
use Rattle.eac_net.specs.Turn.{RowsStep}
use Rattle.eac_net.specs.Untold.{AnswersTo}
use Rattle.eac_net.specs.declared.answer.Answer.{Answer}
use Rattle.eac_net.specs.declared.event.Event.{Event}
use Rattle.eac_net.specs.declared.event.Event.TheVariants as events
use Rattle.eac_net.specs.declared.world.World.{World}

-- ---- which events may be run

-- its parties are of the right kinds, and its bytes within the limits of its line
abbrev pub FitsLine : SetupValue → Event → Type 0
FitsLine setup (events.Day day) = Unit {0}
FitsLine setup (events.Ask reference bytes) = AskFits bytes
FitsLine setup (events.Found authority) = AuthorityFits setup authority
FitsLine setup (events.Link authority) = AuthorityFits setup authority
FitsLine setup (events.Trust party authority) = TrustFits setup party authority
FitsLine setup (events.Apply holder authority root) = ApplyFits setup holder authority root
FitsLine setup (events.Fetch party desk) = FetchFits setup party desk
FitsLine setup (events.Send from to bytes) = SendFits setup from to bytes
FitsLine setup (events.Push desk party) = PushFits setup desk party
FitsLine setup (events.Deliver packet) = DeliverFits packet
FitsLine setup (events.Make chip authority) = AuthorityFits setup authority
FitsLine setup (events.Present chip terminal) = IsTrue (is_party_of is_inspection_system setup terminal)
FitsLine setup (events.Import chip bytes) = AskFits bytes
FitsLine setup (events.Look chip) = Unit {0}

-- a day stands, unless the event is one
abbrev pub HasDay : Option ℕ → Event → Type 0
HasDay today (events.Day day) = Unit {0}
HasDay today (events.Ask reference bytes) = IsSome today
HasDay today (events.Found authority) = IsSome today
HasDay today (events.Link authority) = IsSome today
HasDay today (events.Trust party authority) = IsSome today
HasDay today (events.Apply holder authority root) = IsSome today
HasDay today (events.Fetch party desk) = IsSome today
HasDay today (events.Send from to bytes) = IsSome today
HasDay today (events.Push desk party) = IsSome today
HasDay today (events.Deliver packet) = IsSome today
HasDay today (events.Make chip authority) = IsSome today
HasDay today (events.Present chip terminal) = IsSome today
HasDay today (events.Import chip bytes) = IsSome today
HasDay today (events.Look chip) = IsSome today

-- with so many chips
pub record MayRun (setup : SetupValue) (chips : ℕ) (w : World) (event : Event) : Type 0 where
  pub chip : HasChip chips event
  pub day : HasDay w.day event
  pub fits : FitsLine setup event
  pub parties : AreBetween setup w.packets

-- the day in force after an event
abbrev pub later_day : Option ℕ → Event → Option ℕ
later_day today (events.Day day) = Some day
later_day today (events.Ask reference bytes) = today
later_day today (events.Found authority) = today
later_day today (events.Link authority) = today
later_day today (events.Trust party authority) = today
later_day today (events.Apply holder authority root) = today
later_day today (events.Fetch party desk) = today
later_day today (events.Send from to bytes) = today
later_day today (events.Push desk party) = today
later_day today (events.Deliver packet) = today
later_day today (events.Make chip authority) = today
later_day today (events.Present chip terminal) = today
later_day today (events.Import chip bytes) = today
later_day today (events.Look chip) = today

-- ---- one event

-- Where these rows are told before and after it, from a state of the objects before it: one turn leads to a state of those
-- after it. Rows stay but for a settling, what was lost before stays lost, and nothing is dropped but in want of memory.
-- What was signed stays traced.
pub record GoesOn (setup : SetupValue) (i : Ran) (w' : World) (o o' : Outside) (before after : List Row) (s : State) : Type 0 where
  pub next : State
  pub step : RowsStep setup s i next
  pub there : IsAt setup w' o' after next
  pub stay : Stay before after
  pub lost_now : List Pair
  pub lost : next.lost ≡ s.lost ++ lost_now
  pub dropped : IsSome i.answer → next.dropped ≡ s.dropped
  pub traced : IsTracedAt o before s → IsTracedAt o' after next

-- The item is what happened between these objects. What is known of it stands whatever is told; where the rows are told
-- afterwards, each state of the objects before goes on by it.
pub record Steps (setup : SetupValue) (i : Ran) (w w' : World) (o o' : Outside) : Type 0 where
  pub from : i.from ≡ moment_at w o
  pub to : i.to ≡ moment_at w' o'
  pub answers : AnswersTo setup i
  pub rows : Told o.rows o'.rows (λ before after. (s : State) → IsAt setup w o before s → GoesOn setup i w' o o' before after s)
  pub parties : AreBetween setup w'.packets
  pub acks : w'.acks.acks ≡ w.acks.acks ++ i.acks

-- what a step appended to the text: the answer's, or nothing where memory is wanting
abbrev pub Said : {E : Type 0} → Result (Unit {0}) E → Option Answer → List ℕ → List ℕ → Type 0
Said (Ok u) (Some answer) old new = new ≡ old ++ answer_text answer
Said (Ok u) None old new = ⊥
Said (Err e) (Some answer) old new = ⊥
Said (Err e) None old new = new ≡ old

-- an event of parties, which calls no chip
abbrev pub HasStepped : SetupValue → Event → {E : Type 0} → Result (Unit {0}) E → World × List ℕ → World × List ℕ
    → Outside → Outside → Type 0
HasStepped setup event r before after o o' =
    (i : Ran) × (i.event ≡ event) × Steps setup i before.0 after.0 o o' × Said r i.answer before.1 after.1
