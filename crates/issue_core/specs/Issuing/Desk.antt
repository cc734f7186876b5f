-- An issuing desk, and what its stories are (this project's own).
use Rattle.std.specs.Prelude.{ℕ, List, Option, Some, None, Result, Ok, Err, Bool, false, option_map}
use Rattle.std.specs.Str.{bytes_eq}
use Rattle.cvc_grammar.specs.declared.certificate.Cert.{Cert}
use Rattle.cvc_grammar.specs.declared.certificate.CertBody.{CertBody}
use Rattle.cvc_grammar.specs.declared.request.Request.{Request}
use Rattle.cvc_grammar.specs.declared.refusal.CvcRefusal.{CvcRefusal}
use Rattle.signature_provider.specs.Provider.{Says, public_key}
use Rattle.ledger.specs.Ledger.{Desk, Delivery, Entry, Cause, TheKeeper, TheProvider, TheKey}
use Rattle.ledger.specs.Story.{Story}
use Rattle.issue_core.specs.Issuing.Readings.{request_of, number_of, cert_of, body_of, cert_message}
use Rattle.issue_core.specs.declared.issuing.signer_row.Signer.{Signer}
use Rattle.issue_core.specs.Issuing.Rules.{Case, signer, first_rule}
use Rattle.issue_core.specs.Issuing.Due.{due}
use Rattle.issue_core.specs.declared.rule.Rule.{Rule}

-- Why a request got no answer: a fault of the keeper or of the provider, or a key, told by its row's reference, that the
-- provider doesn't hold.
pub data Fault : Type 0 where
  KeeperFailed : Fault
  ProviderFailed : Fault
  KeyMissing : (reference : List ℕ) → Fault

abbrev pub cause_of : Fault → Cause
cause_of KeeperFailed = TheKeeper
cause_of ProviderFailed = TheProvider
cause_of (KeyMissing reference) = TheKey

-- Two deliveries are of one request where their bytes are the same. What differs by signatures is all of a certificate
-- but its body.
abbrev pub issuing : Desk Case (List ℕ) (Option CertBody) (List ℕ) Rule Fault
issuing = record {
  query = λ c. c.bytes;
  same = bytes_eq;
  reference = number_of;
  face = body_of;
  first = first_rule;
  due = λ c. option_map Some (due c);
  cause = cause_of;
}

abbrev pub signed_as : Says → Option Signer → Result Cert CvcRefusal → Bool
signed_as says (Some s) (Ok c) = says (public_key s.key) (cert_message c.body) c.signature
signed_as says (Some s) (Err e) = false
signed_as says None cert = false

abbrev pub signed_in : Says → Case → Result Request CvcRefusal → List ℕ → Bool
signed_in says c (Ok r) bytes = signed_as says (signer c r) (cert_of bytes)
signed_in says c (Err e) bytes = false

-- the certificate's signature is over its whole body, by the key of the row that signs
abbrev pub is_signed : Says → Case → List ℕ → Bool
is_signed says c bytes = signed_in says c (request_of c.bytes) bytes

-- ---- its stories

abbrev pub IssueEntries : Type 0
IssueEntries = List (Entry (List ℕ) (List ℕ))

abbrev pub IssueDelivery : Type 0
IssueDelivery = Delivery Case (List ℕ) Rule Fault

-- the deliveries to one issuing desk, one after another, after these entries
abbrev pub IssuingStory : Says → IssueEntries → List IssueDelivery → Type 0
IssuingStory says = Story issuing (is_signed says)
