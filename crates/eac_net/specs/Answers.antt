-- What is answered to an event, by what its call gave (this project's own). Where memory is wanting there is no answer.
use Rattle.std.specs.Prelude.{◌≡◌, ◌++◌, ℕ, List, Option, Some, None, Result, Ok, Err}
use Rattle.issue_core.specs.declared.rule.Rule.{Rule}
use Rattle.issue_core.specs.declared.registering.serving.RegisterAnswer.TheVariants as registered
use Rattle.issue_core.specs.Registering.Desk.{RegisterFault}
use Rattle.ledger.specs.Ledger.{Outcome, Issued, Kept, Refused, Faulted, NoMemory}
use Rattle.holder_core.specs.declared.fault.HolderFault.{HolderFault}
use Rattle.holder_core.specs.declared.fault.HolderFault.TheVariants as fault
use Rattle.eac_net.specs.Journal.{answer_text}
use Rattle.eac_net.specs.Packets.{sent_of}
use Rattle.eac_net.specs.declared.answer.Answer.{Answer}
use Rattle.eac_net.specs.declared.answer.Answer.TheVariants as answers
use Rattle.eac_net.specs.declared.answer.Fault.TheVariants as faults
use Rattle.eac_net.specs.declared.answer.Happened.{Happened}
use Rattle.eac_net.specs.declared.packet.Packet.{Packet}
use Rattle.eac_net.specs.declared.world.World.{World}

-- a fault is an answer, want of memory is none
abbrev pub fault_answer : HolderFault → Option Answer
fault_answer fault.KeeperFault = Some (answers.Failed faults.Keeper)
fault_answer fault.ProviderFault = Some (answers.Failed faults.Provider)
fault_answer (fault.NoKey reference) = Some (answers.Failed (faults.Key reference))
fault_answer fault.NoMemory = None

-- by the result of a party's call
abbrev pub answer_by : {A : Type 0} → (A → Answer) → Result A HolderFault → Option Answer
answer_by answer (Ok a) = Some (answer a)
answer_by answer (Err f) = fault_answer f

-- by an outcome of the register for this reference
abbrev pub outcome_answer : List ℕ → Outcome (List ℕ) Rule RegisterFault → Option Answer
outcome_answer reference (Issued day) = Some (answers.Registered reference (registered.Issued day))
outcome_answer reference (Kept day) = Some (answers.Registered reference (registered.Kept day))
outcome_answer reference (Refused rule) = Some (answers.Registered reference (registered.Refused rule))
outcome_answer reference (Faulted f) = Some (answers.Failed faults.Keeper)
outcome_answer reference NoMemory = None

-- What came of an event is this answer with these packets. Memory may be wanting in its place.
abbrev pub Tells : {E : Type 0} → Result Happened E → Option Answer → List Packet → Type 0
Tells (Ok h) said sent = (said ≡ Some h.answer) × (sent ≡ sent_of h.sent)
Tells (Err e) said sent = Unit {0}

-- ---- how an event ends

abbrev pub ConcludesBy : {E F : Type 0} → Result Happened E → Result (Unit {0}) F → List Packet × List ℕ → List Packet × List ℕ → Type 0
ConcludesBy (Ok h) (Ok u) was now = (now.0 ≡ was.0 ++ sent_of h.sent) × (now.1 ≡ was.1 ++ answer_text h.answer)
ConcludesBy (Err e) (Ok u) was now = ⊥
ConcludesBy happened (Err e) was now = (now.0 ≡ was.0) × (now.1 ≡ was.1)

-- The packets of what happened were sent and its answer's text was appended; or memory was wanting, then or before, and
-- neither was done.
pub record Concludes {E F : Type 0} (happened : Result Happened E) (r : Result (Unit {0}) F) (w w' : World)
    (line line' : List ℕ) : Type 0 where
  pub day : w'.day ≡ w.day
  pub imports : w'.imports ≡ w.imports
  pub acks : w'.acks ≡ w.acks
  pub ends : ConcludesBy happened r (w.packets, line) (w'.packets, line')
