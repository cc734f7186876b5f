-- The certificate that is due where no rule is broken (fields of BSI TR-03110-3, limits after TR-03139; that expiry
-- and rights are cut to those of the signing certificate is this project's own).
use Rattle.std.specs.Prelude.{ℕ, [], Option, Some, None, Result, Ok, Err, bit_and, option_and_then}
use Rattle.signature_provider.specs.declared.key.Key.{Key}
use Rattle.cvc_grammar.specs.declared.request.Request.{Request}
use Rattle.cvc_grammar.specs.declared.certificate.CertBody.{CertBody}
use Rattle.cvc_grammar.specs.declared.refusal.CvcRefusal.{CvcRefusal}
use Rattle.chat_rights.specs.declared.Kind.TheVariants.{Inspection}
use Rattle.policy_limits.specs.Validity.{validity, minimum_days}
use Rattle.policy_limits.specs.declared.registration.Registration.{Registration}
use Rattle.issue_core.specs.Issuing.Readings.{request_of}
use Rattle.issue_core.specs.declared.issuing.signer_row.Signer.{Signer}
use Rattle.issue_core.specs.Issuing.Rules.{Case, signer, registered}

-- a key without domain and cofactor
abbrev pub bare_key : Key → Key
bare_key k = record { algorithm = k.algorithm; domain = []; point = k.point; cofactor = [] }

-- the rights that are registered and that the signing certificate has too
abbrev pub due_rights : Registration → Signer → ℕ
due_rights g s = bit_and g.rights s.settled.template.rights

abbrev pub due_body : Request → Registration → Signer → ℕ × ℕ → CertBody
due_body r g s days = record {
  authority = s.reference;
  key = bare_key r.body.key;
  holder = r.body.holder;
  template = record { kind = Inspection; role = g.role; rights = due_rights g s };
  from = days.0;
  until = days.1;
  extensions = None;
}

abbrev pub due_for : Request → ℕ → Registration → Signer → Option CertBody
due_for r day g s = option_and_then (λ days. Some (due_body r g s days)) (validity day g.days s.settled.until (minimum_days g.role))

abbrev pub due_of : Result Request CvcRefusal → Case → Option CertBody
due_of (Err e) c = None
due_of (Ok r) c = option_and_then (λ g. option_and_then (λ s. due_for r c.day g s) (signer c r)) (registered c r)

abbrev pub due : Case → Option CertBody
due c = due_of (request_of c.bytes) c
