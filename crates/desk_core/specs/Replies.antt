-- The reply to a call, and what is told of it, by what came of the call. The reply repeats the call's identifier (after BSI
-- TR-03129).
use Rattle.std.specs.Prelude.{◌≡◌, ℕ, List, [], ◌∷◌, length, Option, Some, None, Result, Ok, Err}
use Rattle.eac_messages.specs.declared.code.Code.{Code}
use Rattle.eac_messages.specs.declared.code.Code.TheVariants as code
use Rattle.cvc_grammar.specs.declared.request.Request.{Request}
use Rattle.issue_core.specs.Issuing.Readings.{request_of, number_of}
use Rattle.issue_core.specs.RuleNumbers.{number_of as rule_number}
use Rattle.issue_core.specs.declared.fault.IssueFault.{IssueFault}
use Rattle.issue_core.specs.declared.fault.IssueFault.TheVariants as issue_fault
use Rattle.issue_core.specs.declared.issuing.serving.Answer.{Answer}
use Rattle.issue_core.specs.declared.issuing.serving.Answer.TheVariants as answer
use Rattle.issue_core.specs.declared.rule.Rule.{Rule}
use Rattle.holder_core.specs.declared.fault.HolderFault.{HolderFault}
use Rattle.holder_core.specs.declared.fault.HolderFault.TheVariants as fault
use Rattle.holder_core.specs.declared.received.Received.{Received}
use Rattle.desk_core.specs.Codes.{code_of}
use Rattle.desk_core.specs.declared.served.Event1.{Event1}
use Rattle.desk_core.specs.declared.served.Event1.TheVariants as event
use Rattle.desk_core.specs.declared.served.Served.{Served}

-- ---- replies of each form

-- a code alone
abbrev pub coded : List ℕ → Code → Event1 → Served
coded id c e = record { reply = record { id = id; code = c; rule = None; certificates = [] }; event = e }

-- with certificates
abbrev pub given : List ℕ → List (List ℕ) → Event1 → Served
given id certificates e = record {
  reply = record { id = id; code = code.CertAvailable; rule = None; certificates = certificates };
  event = e;
}

-- with the rule that a request breaks
abbrev pub refused : List ℕ → Rule → Served
refused id k = record {
  reply = record { id = id; code = code_of k; rule = Some (rule_number k); certificates = [] };
  event = event.Refused (rule_number k);
}

-- a fault; want of memory has no reply
abbrev pub broken_off : List ℕ → HolderFault → Option Served
broken_off id fault.KeeperFault = Some (coded id code.Internal (event.Fault fault.KeeperFault))
broken_off id fault.ProviderFault = Some (coded id code.Internal (event.Fault fault.ProviderFault))
broken_off id (fault.NoKey reference) = Some (coded id code.Internal (event.Fault (fault.NoKey reference)))
broken_off id fault.NoMemory = None

-- ---- the reply that is due

-- a call that the party doesn't serve
abbrev pub declined : List ℕ → Served
declined id = coded id code.NotAccepted event.NotServed

-- the fault of the same name
abbrev pub fault_from : IssueFault → HolderFault
fault_from issue_fault.KeeperFault = fault.KeeperFault
fault_from issue_fault.ProviderFault = fault.ProviderFault
fault_from (issue_fault.NoKey reference) = fault.NoKey reference
fault_from issue_fault.NoMemory = fault.NoMemory

-- the bytes are a request
abbrev pub IsRead : List ℕ → Type 0
IsRead bytes = (r : Request) × (request_of bytes ≡ Ok r)

-- bytes that were answered with a certificate are
abbrev pub IsNumbered : List ℕ → Result Answer IssueFault → Type 0
IsNumbered bytes (Ok (answer.Issued p)) = IsRead bytes
IsNumbered bytes (Ok (answer.Kept p)) = IsRead bytes
IsNumbered bytes (Ok (answer.Refused k)) = Unit {0}
IsNumbered bytes (Err e) = Unit {0}

-- a request, by its number
abbrev pub request_served : (id bytes : List ℕ) → Result Answer IssueFault → Option Served
request_served id bytes (Ok (answer.Issued p)) = Some (given id (p ∷ []) (event.Issued (number_of bytes)))
request_served id bytes (Ok (answer.Kept p)) = Some (given id (p ∷ []) (event.Kept (number_of bytes)))
request_served id bytes (Ok (answer.Refused k)) = Some (refused id k)
request_served id bytes (Err e) = broken_off id (fault_from e)

-- a question for certificates
abbrev pub list_served : List ℕ → Result (List (List ℕ)) HolderFault → Option Served
list_served id (Ok list) = Some (given id list (event.Listed (length list)))
list_served id (Err e) = broken_off id e

abbrev pub received_by : List ℕ → Received → Option HolderFault → Option Served
received_by id received None = Some (coded id code.Received (event.Received received))
received_by id received (Some fault.KeeperFault) = Some (coded id code.Internal (event.Received received))
received_by id received (Some fault.ProviderFault) = Some (coded id code.Internal (event.Received received))
received_by id received (Some (fault.NoKey reference)) = Some (coded id code.Internal (event.Received received))
received_by id received (Some fault.NoMemory) = None

-- certificates that came in: a fault is told with the items before it
abbrev pub received_served : List ℕ → Received → Option Served
received_served id received = received_by id received received.fault
