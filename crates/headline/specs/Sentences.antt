-- What people will quote of a run: each sentence under the premises that it needs (this project's own).
use Rattle.std.specs.Prelude.{◌≡◌, ◌++◌, ℕ, List, [], ◌∷◌, Option, Some, IsSome, slice_get}
use Rattle.eac_base.specs.declared.acks.Ack.{Ack}
use Rattle.policy_limits.specs.Setup.{SetupValue}
use Rattle.keeper.specs.declared.rows.Row.{Row}
use Rattle.cvc_grammar.specs.declared.certificate.Cert.{Cert}
use Rattle.ledger.specs.Ledger.{Entry}
use Rattle.ledger.specs.Story.{NoTwo}
use Rattle.issue_core.specs.Issuing.Desk.{issuing}
use Rattle.issue_core.specs.Issuing.Rows.{entries_at}
use Rattle.chip_verify.specs.GoodChain.{GoodChain}
use Rattle.chip_verify.specs.Trust.{Trust}
use Rattle.chip_slots.specs.declared.disk.ChipDisk.{Ghosts as DiskOf}
use Rattle.chip_events.specs.Acts.{ChipAct, IsIn}
use Rattle.chip_events.specs.Held.{first_of}
use Rattle.chip_events.specs.Told.{ChipTold}
use Rattle.chip_events.specs.declared.answers.Grant.{Grant}
use Rattle.eac_net.specs.ChipHistory.{ChipHistory}
use Rattle.eac_net.specs.ChipSays.{IsTurn}
use Rattle.eac_net.specs.Completeness.{DeliversRequest, NoneRose, IsServed}
use Rattle.eac_net.specs.Grants.{IsOfChain, IsShown, NoneFailed, IsGranted}
use Rattle.eac_net.specs.Items.{Ran}
use Rattle.eac_net.specs.Laws.{HasFault, HasRisen}
use Rattle.eac_net.specs.Objects.{Outside}
use Rattle.eac_net.specs.Run.{RunOf}
use Rattle.eac_net.specs.SoFar.{IsBlankDisk, begin}
use Rattle.eac_net.specs.State.{State}
use Rattle.eac_net.specs.Turn.{History, RowsStep}
use Rattle.eac_net.specs.declared.answer.Answer.{Answer}
use Rattle.eac_net.specs.declared.answer.Fault.{Fault}
use Rattle.eac_net.specs.declared.answer.Fault.TheVariants as faults
use Rattle.eac_net.specs.declared.event.Event.{Event}
use Rattle.eac_net.specs.declared.event.Event.TheVariants as events
use Rattle.eac_net.specs.declared.packet.Packet.{Packet}
use Rattle.headline.specs.Desks.{IsAnsweredFrom, RefusalsNameTheFirst}
use Rattle.headline.specs.Headline.{Granted, Headline}
use Rattle.headline.specs.OneChip as one

-- ---- premises

-- The keeper had no rows when the run began, and tells these at its end.
pub record TellsRows (o o' : Outside) (rows : List Row) : Type 0 where
  pub none : o.rows ≡ Some []
  pub told : o'.rows ≡ Some rows

-- The chip's disk tells, and no image of it read as a chip when the run began.
pub record TellsDisk {D : Type 0} (G : DiskOf D) (disks disks' : List D) (chip : ℕ) (d d' : D) : Type 0 where
  pub was : slice_get disks chip ≡ Some d
  pub is : slice_get disks' chip ≡ Some d'
  pub tells : G.tells d
  pub blank : IsBlankDisk G d

-- ---- the last state

-- One state to which the run's history leads has the keeper's rows, and this holds of it.
pub record InTheEnd (setup : SetupValue) (o : Outside) (rows : List Row) (items : List Ran) (P : State → Type 0) : Type 0 where
  pub end : State
  pub history : History setup (begin o []) items end
  pub rows_are : end.rows ≡ rows
  pub holds : P end

-- One state of the chip to which the history of its events leads has acts of which this holds.
pub record InItsActs {D : Type 0} (G : DiskOf D) (chip : ℕ) (d : D) (items : List Ran) (P : List ChipAct → Type 0) : Type 0 where
  pub last : ChipTold
  pub history : ChipHistory chip (first_of G d) items last
  pub holds : P last.acts

-- The items before this one led to a state from which it was a turn, and this holds of it.
pub record AtItsTurn (setup : SetupValue) (o : Outside) (items : List Ran) (i : Ran) (P : State → State → Type 0) : Type 0 where
  pub before : List Ran
  pub after : List Ran
  pub split : items ≡ before ++ i ∷ after
  pub state : State
  pub history : History setup (begin o []) before state
  pub next : State
  pub step : RowsStep setup state i next
  pub holds : P state next

-- The same of a chip.
pub record AtTheChip {D : Type 0} (G : DiskOf D) (chip : ℕ) (d : D) (items : List Ran) (i : Ran) (P : ChipTold → Type 0) : Type 0 where
  pub before : List Ran
  pub after : List Ran
  pub split : items ≡ before ++ i ∷ after
  pub reached : ChipTold
  pub history : ChipHistory chip (first_of G d) before reached
  pub next : ChipTold
  pub turn : IsTurn chip reached i next
  pub holds : P reached

module _ {D : Type 0} (G : DiskOf D) where
  -- Whatever holds of each run.
  abbrev pub OfRuns : ((setup : SetupValue) (o o' : Outside) (disks disks' : List D) (acks : List Ack) → List Ran → Type 0) → Type 0
  OfRuns P = (setup : SetupValue) (o o' : Outside) (disks disks' : List D) (acks : List Ack) (events : List Event) (answers : List (Option Answer))
      → (h : Headline G setup o o' disks disks' acks events answers) → P setup o o' disks disks' acks h.run.items

  -- A run is all that the headline says.
  abbrev pub RunsKeepTheirWord : Type 0
  RunsKeepTheirWord = (setup : SetupValue) (o o' : Outside) (disks disks' : List D) (acks : List Ack) (events : List Event) (answers : List (Option Answer))
      → RunOf G setup o o' disks disks' acks events answers → Headline G setup o o' disks disks' acks events answers

  -- ---- request numbers

  -- At no desk two certificates are kept for one request number.
  abbrev pub OneCertificateForANumber : Type 0
  OneCertificateForANumber = OfRuns (λ setup o o' disks disks' acks items. (rows : List Row) → TellsRows o o' rows
      → (desk : ℕ) → NoTwo issuing (entries_at desk rows))

  -- The request of each kept certificate was answered by it from the delivery on that made it, whenever it was answered.
  abbrev pub AnsweredFromItsFirstDelivery : Type 0
  AnsweredFromItsFirstDelivery = OfRuns (λ setup o o' disks disks' acks items. (rows : List Row) → TellsRows o o' rows
      → InTheEnd setup o rows items (λ end. (desk : ℕ) (e : Entry (List ℕ) (List ℕ)) → IsIn e (entries_at desk rows)
      → IsAnsweredFrom issuing (end.desks desk) e))

  -- Each refusal of a desk names the first rule that the request broke there.
  abbrev pub TheFirstBrokenRule : Type 0
  TheFirstBrokenRule = OfRuns (λ setup o o' disks disks' acks items. (rows : List Row) → TellsRows o o' rows
      → InTheEnd setup o rows items (λ end. (desk : ℕ) → RefusalsNameTheFirst issuing (end.desks desk)))

  -- ---- grants

  -- Each grant is the intersection of the rights of the chain that the chip verified.
  abbrev pub AGrantIsTheIntersection : Type 0
  AGrantIsTheIntersection = OfRuns (λ setup o o' disks disks' acks items. (chip terminal : ℕ) (i : Ran) (grant : Grant) → IsIn i items
      → Granted chip terminal i grant → (c : ChipTold) × IsOfChain terminal c i grant)

  -- ---- chips

  -- Whatever a crash leaves of a chip from an acknowledgement on holds the import that was acknowledged.
  abbrev pub AcknowledgedIsNeverLost : Type 0
  AcknowledgedIsNeverLost = OfRuns (λ setup o o' disks disks' acks items. (chip : ℕ) (d d' : D) → TellsDisk G disks disks' chip d d'
      → InItsActs G chip d items (λ acts. one.AcknowledgedIsNeverLost chip (G.told d') (G.moment d) (G.moment d') acts acks))

  -- No day that an opening of a chip has read falls, whatever a crash leaves of it.
  abbrev pub DaysNeverFall : Type 0
  DaysNeverFall = OfRuns (λ setup o o' disks disks' acks items. (chip : ℕ) (d d' : D) → TellsDisk G disks disks' chip d d'
      → InItsActs G chip d items (λ acts. one.DaysNeverFall chip (G.told d') (G.moment d) (G.moment d') acts))

  -- A trust point that was replaced comes back in nothing that a crash leaves.
  abbrev pub AReplacedPointNeverReturns : Type 0
  AReplacedPointNeverReturns = OfRuns (λ setup o o' disks disks' acks items. (chip : ℕ) (d d' : D) → TellsDisk G disks disks' chip d d'
      → InItsActs G chip d items (λ acts. one.ReplacedPointsNeverReturn chip (G.told d') (G.moment d) (G.moment d') acts))

  -- ---- completeness

  -- A fault is told only where the count of what failed rose within the event.
  abbrev pub NoFaultWithoutAFailure : Type 0
  NoFaultWithoutAFailure = OfRuns (λ setup o o' disks disks' acks items. (i : Ran) (f : Fault) → IsIn i items → HasFault f i.answer
      → HasRisen f i)

  -- Where the rows are told no key is ever missing.
  abbrev pub NoKeyIsEverMissing : Type 0
  NoKeyIsEverMissing = OfRuns (λ setup o o' disks disks' acks items. (rows : List Row) → TellsRows o o' rows
      → (i : Ran) (reference : List ℕ) → IsIn i items → HasFault (faults.Key reference) i.answer → ⊥)

  -- A delivered request is answered by its certificate or by its first broken rule, where no count rose and memory wasn't
  -- wanting.
  abbrev pub RequestsAreAnswered : Type 0
  RequestsAreAnswered = OfRuns (λ setup o o' disks disks' acks items. (rows : List Row) → TellsRows o o' rows
      → (i : Ran) → IsIn i items → NoneRose i → IsSome i.answer
      → AtItsTurn setup o items i (λ s t. (p : Packet) (id request : List ℕ) → DeliversRequest setup s i p id request → IsServed setup p id request s i t))

  -- A good chain for the chip's trust is granted, where neither disk nor provider failed and memory wasn't wanting, or the chip is
  -- worn.
  abbrev pub GoodChainsAreGranted : Type 0
  GoodChainsAreGranted = OfRuns (λ setup o o' disks disks' acks items. (chip : ℕ) (d d' : D) → TellsDisk G disks disks' chip d d'
      → (terminal : ℕ) (i : Ran) → IsIn i items → i.event ≡ events.Present chip terminal → NoneFailed chip i → IsSome i.answer
      → AtTheChip G chip d items i (λ c. (t : Trust) (links : List Cert) (v w : Cert) → IsShown chip terminal c i t (links ++ v ∷ w ∷ [])
      → GoodChain i.from.says t links v w → IsGranted i.answer))
