-- Laws of items and histories (this project's own).
use Rattle.std.specs.Prelude.{◌≡◌, ◌⊎◌, ◌==◌, ℕ, List, [], ◌∷◌, ◌++◌, filter, Option, Some, None, IsSome, Result, Ok, true}
use Rattle.std.specs.List.{All}
use Rattle.eac_base.specs.Causes.{Rose}
use Rattle.eac_base.specs.declared.acks.Ack.{Ack}
use Rattle.eac_base.specs.declared.failures.NoMemory.{NoMemory}
use Rattle.signature_provider.specs.Provider.{Says, SaysMore, HoldsMore}
use Rattle.cvc_grammar.specs.Certificate.{body_text}
use Rattle.cvc_grammar.specs.ReadingOrder.{read_cert}
use Rattle.cvc_grammar.specs.declared.certificate.Cert.{Cert}
use Rattle.policy_limits.specs.Setup.{SetupValue}
use Rattle.chip_slots.specs.Acts.{Answered}
use Rattle.chip_slots.specs.declared.answers.ChipRefusal.{ChipRefusal}
use Rattle.chip_slots.specs.declared.answers.ChipRefusal.TheVariants as refusals
use Rattle.chip_slots.specs.declared.disk.ChipDisk.{Ghosts as DiskOf}
use Rattle.chip_events.specs.declared.answers.ImportAnswer.{ImportAnswer}
use Rattle.chip_events.specs.declared.answers.ImportAnswer.TheVariants as imports
use Rattle.chip_events.specs.declared.answers.Looked.{Looked}
use Rattle.chip_events.specs.declared.answers.Looked.TheVariants as looks
use Rattle.chip_events.specs.declared.answers.MakeAnswer.{MakeAnswer}
use Rattle.chip_events.specs.declared.answers.MakeAnswer.TheVariants as makes
use Rattle.chip_events.specs.declared.answers.ShownEnd.{ShownEnd}
use Rattle.chip_events.specs.declared.answers.ShownEnd.TheVariants as ends
use Rattle.chip_events.specs.Acts.{ChipAct, IsIn}
use Rattle.chip_events.specs.Asked.{Took}
use Rattle.chip_events.specs.Told.{ChipTold}
use Rattle.holder_core.specs.declared.fault.HolderFault.{HolderFault}
use Rattle.holder_core.specs.declared.received.Received.{Received}
use Rattle.desk_core.specs.declared.served.Event1.{Event1}
use Rattle.desk_core.specs.declared.served.Event1.TheVariants as served
use Rattle.eac_net.specs.Answers.{fault_answer}
use Rattle.eac_net.specs.ChipSays.{IsTurn}
use Rattle.eac_net.specs.ChipSteps.{HasRun}
use Rattle.eac_net.specs.Chips.{chip_in, known_of}
use Rattle.eac_net.specs.Items.{Ran, events_of, answers_of, asked_of, acks_of, own_items}
use Rattle.eac_net.specs.Lawful.{AreLawful}
use Rattle.eac_net.specs.Made.{Made, AreGood, NoneRefused}
use Rattle.eac_net.specs.Moment.{Moment}
use Rattle.eac_net.specs.Objects.{Outside}
use Rattle.eac_net.specs.Run.{AreTrue, RunOf}
use Rattle.eac_net.specs.SoFar.{SoFar}
use Rattle.eac_net.specs.State.{State}
use Rattle.eac_net.specs.Steps.{FitsLine, Said}
use Rattle.eac_net.specs.Turn.{RowsStep}
use Rattle.eac_net.specs.Untold.{AnswersTo, AreRan}
use Rattle.eac_net.specs.Verdicts.{Verdict, AreSaid}
use Rattle.eac_net.specs.declared.answer.Answer.{Answer}
use Rattle.eac_net.specs.declared.answer.Answer.TheVariants as answers
use Rattle.eac_net.specs.declared.answer.Fault.{Fault}
use Rattle.eac_net.specs.declared.answer.Fault.TheVariants as faults
use Rattle.eac_net.specs.declared.answer.Presented.{Presented}
use Rattle.eac_net.specs.declared.answer.Presented.TheVariants as presented
use Rattle.eac_net.specs.declared.answer.Replied.{Replied}
use Rattle.eac_net.specs.declared.answer.Replied.TheVariants as replied
use Rattle.eac_net.specs.declared.event.Event.{Event}
use Rattle.eac_net.specs.declared.world.World.{World}

-- ---- a run

-- a world without a day, a packet and an import
pub record IsNew (w : World) : Type 0 where
  pub day : w.day ≡ None
  pub packets : w.packets ≡ []
  pub imports : w.imports ≡ []
  pub acks : w.acks.acks ≡ []

module _ {D : Type 0} (G : DiskOf D) where
  -- before the first event no item has run
  abbrev pub NothingYet : Type 0
  NothingYet = (setup : SetupValue) (first : Outside) (disks : List D) (w : World) → IsNew w
      → ((chip : ℕ) → first.disks chip ≡ known_of G disks chip) → SoFar G setup first disks w first disks []

  -- a step goes on by one item, where all before it were answered
  abbrev pub OneItem : Type 0
  OneItem = (setup : SetupValue) (first o o' : Outside) (disks now now' : List D) (was then : World × List ℕ) (items : List Ran)
      (event : Event) (r : Result (Unit {0}) NoMemory) → SoFar G setup first disks was.0 o now items
      → All IsSome (answers_of items) → HasRun G setup event r was then o o' now now'
      → (i : Ran) × (i.event ≡ event) × Said r i.answer was.1 then.1 × SoFar G setup first disks then.0 o' now' (items ++ i ∷ [])

  -- after the last event they are a run
  abbrev pub SoFarIsRun : Type 0
  SoFarIsRun = (setup : SetupValue) (first o : Outside) (disks now : List D) (w : World) (items : List Ran)
      → SoFar G setup first disks w o now items
      → RunOf G setup first o disks now w.acks.acks (events_of items) (answers_of items)

-- ---- verdicts, with no premise

-- what got a yes the provider says at the end, and what got a no it didn't say at the beginning
abbrev pub VerdictsAreTrue : Type 0
VerdictsAreTrue = (setup : SetupValue) (first last : Moment) (items : List Ran) → AreRan setup first items last
    → AreTrue first.says last.says (asked_of items)

-- the provider goes back on nothing
abbrev pub ProvidersGrow : Type 0
ProvidersGrow = (setup : SetupValue) (first last : Moment) (items : List Ran) → AreRan setup first items last
    → SaysMore first.says last.says × HoldsMore first.holds last.holds

-- What is known of an item. What the provider said at the run's beginning it said before the item, and what it says after the
-- item it says at the end.
pub record IsOfRun (setup : SetupValue) (first last : Moment) (i : Ran) : Type 0 where
  pub answers : AnswersTo setup i
  pub before : SaysMore first.says i.from.says
  pub after : SaysMore i.to.says last.says

-- so it is with each item
abbrev pub EachItem : Type 0
EachItem = (setup : SetupValue) (first last : Moment) (items : List Ran) (i : Ran) → AreRan setup first items last → IsIn i items
    → IsOfRun setup first last i

-- where the provider says each made signature, none gets a no, whoever asks
abbrev pub SaidArePassed : Type 0
SaidArePassed = (said : Says) (made : List Made) (verdicts : List Verdict)
    → AreGood said made → AreSaid said verdicts → NoneRefused made verdicts

-- ---- faults

-- a party's fault is told as this one
abbrev pub IsToldAs : Fault → HolderFault → Type 0
IsToldAs f h = fault_answer h ≡ Some (answers.Failed f)

abbrev pub ReceiptFails : Fault → Received → Type 0
ReceiptFails f r = (h : HolderFault) × (r.fault ≡ Some h) × IsToldAs f h

abbrev pub EventFails : Fault → Event1 → Type 0
EventFails f (served.Fault h) = IsToldAs f h
EventFails f (served.Received r) = ReceiptFails f r
EventFails f (served.Issued reference) = ⊥
EventFails f (served.Kept reference) = ⊥
EventFails f (served.Refused k) = ⊥
EventFails f (served.Listed count) = ⊥
EventFails f served.NotServed = ⊥

abbrev pub CallFails : Fault → Option Event1 → Type 0
CallFails f (Some event) = EventFails f event
CallFails f None = ⊥

abbrev pub ReplyFails : Fault → Replied → Type 0
ReplyFails f (replied.Took r) = ReceiptFails f r
ReplyFails f replied.Malformed = ⊥
ReplyFails f (replied.Noted code) = ⊥

-- a chip's answer tells of a fault of its disk, or of the provider
abbrev pub fault_at : ChipRefusal → Option Fault
fault_at refusals.DiskFault = Some faults.Disk
fault_at refusals.ProviderFault = Some faults.Provider
fault_at refusals.NoChip = None
fault_at refusals.NeedsOpen = None
fault_at (refusals.Syntax e) = None
fault_at (refusals.Refused k) = None
fault_at refusals.Worn = None

abbrev pub MakingFails : Fault → MakeAnswer → Type 0
MakingFails f makes.DiskFault = f ≡ faults.Disk
MakingFails f (makes.Made holder) = ⊥
MakingFails f makes.Unfounded = ⊥
MakingFails f makes.WrongSize = ⊥
MakingFails f makes.WasMade = ⊥

abbrev pub EndFails : Fault → ShownEnd → Type 0
EndFails f (ends.AllTaken grant) = ⊥
EndFails f (ends.NotTaken e) = fault_at e ≡ Some f

abbrev pub PresentFails : Fault → Presented → Type 0
PresentFails f (presented.NotOpened e) = fault_at e ≡ Some f
PresentFails f presented.NoChain = ⊥
PresentFails f (presented.Shown shown) = EndFails f shown.end

abbrev pub ImportFails : Fault → ImportAnswer → Type 0
ImportFails f (imports.NotOpened e) = fault_at e ≡ Some f
ImportFails f (imports.Took taken day) = ⊥
ImportFails f (imports.NotTaken e) = fault_at e ≡ Some f

abbrev pub LookFails : Fault → Looked → Type 0
LookFails f (looks.Read state generation) = ⊥
LookFails f (looks.NotOpened e) = fault_at e ≡ Some f

-- the answer tells of this fault
abbrev pub FailsWith : Fault → Answer → Type 0
FailsWith f (answers.Failed g) = g ≡ f
FailsWith f answers.Silent = ⊥
FailsWith f (answers.Registered reference answer) = ⊥
FailsWith f (answers.Founded answer) = ⊥
FailsWith f (answers.Linked answer) = ⊥
FailsWith f (answers.Trusted answer) = ⊥
FailsWith f (answers.Applied answer) = ⊥
FailsWith f (answers.Sent packet) = ⊥
FailsWith f (answers.Called event reply) = CallFails f event
FailsWith f (answers.Replied came) = ReplyFails f came
FailsWith f answers.Unsent = ⊥
FailsWith f (answers.Made made) = MakingFails f made
FailsWith f (answers.Presented came) = PresentFails f came
FailsWith f (answers.Imported came) = ImportFails f came
FailsWith f (answers.Looked came) = LookFails f came

abbrev pub HasFault : Fault → Option Answer → Type 0
HasFault f (Some answer) = FailsWith f answer
HasFault f None = ⊥

-- it comes only where its count rose: of the disks that of the event's chip
abbrev pub HasRisen : Fault → Ran → Type 0
HasRisen faults.Disk i = (chip : ℕ) × (chip_in i.event ≡ Some chip) × Rose (i.from.disks chip).faults (i.to.disks chip).faults
HasRisen faults.Keeper i = Rose i.from.parties.keeper i.to.parties.keeper
HasRisen faults.Provider i = Rose i.from.parties.provider i.to.parties.provider
HasRisen (faults.Key reference) i = Unit {0}

abbrev pub FaultsHaveCauses : Type 0
FaultsHaveCauses = (setup : SetupValue) (i : Ran) (f : Fault) → AnswersTo setup i → HasFault f i.answer → HasRisen f i

-- where the rows are told no key is missing
abbrev pub NoKeyIsMissing : Type 0
NoKeyIsMissing = (setup : SetupValue) (s t : State) (i : Ran) (reference : List ℕ)
    → AnswersTo setup i → RowsStep setup s i t → HasFault (faults.Key reference) i.answer → ⊥

-- ---- rows

-- every turn keeps rows lawful
abbrev pub TurnsKeepLaw : Type 0
TurnsKeepLaw = (setup : SetupValue) (s t : State) (i : Ran) → FitsLine setup i.event → RowsStep setup s i t → AreLawful setup t.rows

-- ---- chips

-- each import that an item acknowledged was made on the chip of its event
abbrev pub AcksAreOwn : Type 0
AcksAreOwn = (setup : SetupValue) (i : Ran) (a : Ack) → AnswersTo setup i → IsIn a i.acks → chip_in i.event ≡ Some a.chip

-- so those of one chip are those of its own items
abbrev pub AcksAreOfItems : Type 0
AcksAreOfItems = (setup : SetupValue) (first last : Moment) (items : List Ran) (chip : ℕ) → AreRan setup first items last
    → filter (λ (a : Ack). chip == a.chip) (acks_of items) ≡ acks_of (own_items chip items)

-- the question is about this certificate's signature over its body, and got a yes
pub record IsYesTo (v : Verdict) (cert : Cert) : Type 0 where
  pub message : v.question.message ≡ body_text cert.body
  pub signature : v.question.signature ≡ cert.signature
  pub yes : v.yes ≡ true

-- the bytes are a certificate's, to whose signature one of these verdicts is a yes
pub record WasAsked (bytes : List ℕ) (verdicts : List Verdict) : Type 0 where
  pub cert : Cert
  pub reads : read_cert bytes ≡ Ok cert
  pub verdict : Verdict
  pub among : IsIn verdict verdicts
  pub yes : IsYesTo verdict cert

-- An import that was answered, and newly took its bytes, stood before the item, or was asked for in it.
abbrev pub TakenWasAsked : Type 0
TakenWasAsked = (chip : ℕ) (c c' : ChipTold) (i : Ran) (a : ChipAct) (bytes : List ℕ) → IsTurn chip c i c' → IsIn a c'.acts
    → a.settling ≡ Answered → Took a.call bytes → IsIn a c.acts ⊎ WasAsked bytes i.asked
