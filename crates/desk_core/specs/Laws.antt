-- A law over the replies (this project's own).
use Rattle.std.specs.Prelude.{ℕ, ◌≤◌, List, length, Option, IfSome, Result, IsUtf8}
use Rattle.eac_messages.specs.Body.{longest_id}
use Rattle.eac_messages.specs.Reply.{CanBeReplied}
use Rattle.issue_core.specs.declared.fault.IssueFault.{IssueFault}
use Rattle.issue_core.specs.declared.issuing.serving.Answer.{Answer}
use Rattle.holder_core.specs.declared.fault.HolderFault.{HolderFault}
use Rattle.holder_core.specs.declared.received.Received.{Received}
use Rattle.desk_core.specs.Replies.{request_served, list_served, received_served, declined}
use Rattle.desk_core.specs.declared.served.Served.{Served}

abbrev pub CanBeWritten : Option Served → Type 0
CanBeWritten due = IfSome due (λ served. CanBeReplied served.reply)

-- the replies with this identifier
pub record AllCanBeWritten (id : List ℕ) : Type 0 where
  pub requests : (bytes : List ℕ) (issued : Result Answer IssueFault) → CanBeWritten (request_served id bytes issued)
  pub lists : (listed : Result (List (List ℕ)) HolderFault) → CanBeWritten (list_served id listed)
  pub receipts : (received : Received) → CanBeWritten (received_served id received)
  pub others : CanBeReplied (declined id).reply

-- Whatever came of a call, its reply can be written where its identifier can.
abbrev pub RepliesCanBeWritten : Type 0
RepliesCanBeWritten = (id : List ℕ) → IsUtf8 id → length id ≤ longest_id → AllCanBeWritten id
