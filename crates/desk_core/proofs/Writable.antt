-- Each reply can be written.
use Rattle.std.proofs.Common.{ℕ, ◌≤◌, List, [], ◌∷◌, length, Some, None, Ok, Err, refl}
use Rattle.std.specs.Prelude.{Result, Option, IsUtf8, Bool, true, false, ◌||◌, IsTrue}
use Rattle.eac_messages.specs.Body.{longest_id}
use Rattle.eac_messages.specs.Reply.{CanBeReplied, is_rule}
use Rattle.eac_messages.specs.Code.{carries_certificates}
use Rattle.eac_messages.specs.declared.code.Code.{Code}
use Rattle.eac_messages.specs.declared.code.Code.TheVariants as code
use Rattle.issue_core.specs.declared.fault.IssueFault.{IssueFault}
use Rattle.issue_core.specs.RuleNumbers.{number_of as rule_number}
use Rattle.issue_core.specs.declared.issuing.serving.Answer.{Answer}
use Rattle.issue_core.specs.declared.issuing.serving.Answer.TheVariants as answer
use Rattle.issue_core.specs.declared.rule.Rule.{Rule}
use Rattle.issue_core.specs.declared.rule.Rule.TheVariants as rule
use Rattle.holder_core.specs.declared.fault.HolderFault.{HolderFault}
use Rattle.holder_core.specs.declared.fault.HolderFault.TheVariants as fault
use Rattle.holder_core.specs.declared.received.Received.{Received}
use Rattle.desk_core.specs.Codes.{code_of}
use Rattle.desk_core.specs.Replies.{coded, given, refused, broken_off, fault_from, request_served, list_served, received_by}
use Rattle.desk_core.specs.Laws.{CanBeWritten}
use Rattle.desk_core.specs.declared.served.Event1.TheVariants as event

-- no certificates go with any code
no_certificates : (b : Bool) → IsTrue (b || true)
no_certificates true = refl
no_certificates false = refl

one_of_fourteen : (k : Rule) → IsTrue (is_rule (rule_number k))
one_of_fourteen (rule.Syntax e) = refl
one_of_fourteen rule.Used = refl
one_of_fourteen rule.Holder = refl
one_of_fourteen rule.Authority = refl
one_of_fourteen rule.AuthorityExpired = refl
one_of_fourteen rule.Domain = refl
one_of_fourteen rule.OuterMissing = refl
one_of_fourteen rule.OuterUnknown = refl
one_of_fourteen rule.OuterExpired = refl
one_of_fourteen rule.LiveLimit = refl
one_of_fourteen rule.Short = refl
one_of_fourteen rule.Full = refl
one_of_fourteen rule.Inner = refl
one_of_fourteen rule.Outer = refl

module _ (id : List ℕ) (text : IsUtf8 id) (size : length id ≤ longest_id) where
  pub coded_written : (c : Code) → CanBeReplied (coded id c event.NotServed).reply
  coded_written c = record { text = text; size = size; rule_is = tt; certificates_are = no_certificates (carries_certificates c) }

  given_written : (list : List (List ℕ)) → CanBeReplied (given id list event.NotServed).reply
  given_written list = record { text = text; size = size; rule_is = tt; certificates_are = refl }

  refused_written : (k : Rule) → CanBeReplied (refused id k).reply
  refused_written k = record { text = text; size = size; rule_is = one_of_fourteen k; certificates_are = no_certificates (carries_certificates (code_of k)) }

  broken_written : (e : HolderFault) → CanBeWritten (broken_off id e)
  broken_written fault.KeeperFault = coded_written code.Internal
  broken_written fault.ProviderFault = coded_written code.Internal
  broken_written (fault.NoKey reference) = coded_written code.Internal
  broken_written fault.NoMemory = tt

  pub request_written : (bytes : List ℕ) (issued : Result Answer IssueFault) → CanBeWritten (request_served id bytes issued)
  request_written bytes (Ok (answer.Issued p)) = given_written (p ∷ [])
  request_written bytes (Ok (answer.Kept p)) = given_written (p ∷ [])
  request_written bytes (Ok (answer.Refused k)) = refused_written k
  request_written bytes (Err e) = broken_written (fault_from e)

  pub list_written : (listed : Result (List (List ℕ)) HolderFault) → CanBeWritten (list_served id listed)
  list_written (Ok list) = given_written list
  list_written (Err e) = broken_written e

  pub receipt_written : (received : Received) (e : Option HolderFault) → CanBeWritten (received_by id received e)
  receipt_written received None = coded_written code.Received
  receipt_written received (Some fault.KeeperFault) = coded_written code.Internal
  receipt_written received (Some fault.ProviderFault) = coded_written code.Internal
  receipt_written received (Some (fault.NoKey reference)) = coded_written code.Internal
  receipt_written received (Some fault.NoMemory) = tt
