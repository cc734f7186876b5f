-- The making of the certificate that is due.
use Rattle.std.proofs.Common.{◌≡◌, ℕ, ◌≤◌, List, length, refl, sym, ◌∙◌, subst}
use Rattle.std.specs.Prelude.{IsTrue}
use Rattle.holder_reference.specs.Reference.{is_reference}
use Rattle.signature_provider.specs.Provider.{Says, Holds, public_key}
use Rattle.cvc_grammar.specs.declared.request.Request.{Request}
use Rattle.cvc_grammar.specs.declared.certificate.CertBody.{CertBody}
use Rattle.cvc_grammar.specs.Request.{IsLegalRequest}
use Rattle.cvc_grammar.specs.Certificate.{IsLegalBody, IsLegalCert, IsCert, is_signature, longest_cert}
use Rattle.policy_limits.specs.declared.registration.Registration.{Registration}
use Rattle.issue_core.specs.declared.issuing.signer_row.Signer.{Signer}
use Rattle.issue_core.specs.Issuing.Readings.{cert_message}
use Rattle.issue_core.specs.Issuing.Due.{due_body}
use Rattle.issue_core.specs.Issuing.Rows.{settled_of}
use Rattle.issue_core.specs.Issuing.Calls.{IsMade, IsSigned}
use Rattle.issue_core.specs.declared.issuing.making.Made.{Made}
use Rattle.issue_core.proofs.IssuingDesk.Sizes.{bare_legal, body_legal, cert_legal}
use Rattle.issue_core.proofs.IssuingDesk.Messages.{read_again}

module _ (r : Request) (g : Registration) (s : Signer) (days : ℕ × ℕ) (legal : IsLegalRequest r) (authority : IsTrue (is_reference s.reference)) (holder : IsTrue (is_reference r.body.holder)) where
  pub due_legal : (b : CertBody) → b ≡ due_body r g s days → IsLegalBody b
  due_legal b is = subst (λ (x : CertBody). IsLegalBody x) (sym is) (body_legal (due_body r g s days) refl (bare_legal r.body.key legal.key) authority holder)

  pub signed_legal : (b : CertBody) (signature bytes : List ℕ) → b ≡ due_body r g s days → IsTrue (is_signature signature) → bytes ≡ signature → IsLegalCert (record { body = b; signature = bytes })
  signed_legal b signature bytes is size same = subst (λ (x : CertBody × List ℕ). IsLegalCert (record { body = x.0; signature = x.1 })) (λ i. (sym is i, sym same i)) (cert_legal (record { body = due_body r g s days; signature = signature }) refl (bare_legal r.body.key legal.key) authority holder size)

pub is_made : (says : Says) (held : Holds) (r : Request) (g : Registration) (s : Signer) (days : ℕ × ℕ) (b : CertBody) (signature bytes : List ℕ) (made : Made) → b ≡ due_body r g s days → IsSigned says held s b signature → bytes ≡ signature →
    IsCert (record { body = b; signature = bytes }) made.text → made.settled ≡ settled_of made.text b → IsMade says (held (public_key s.key)) r g s days made
is_made says held r g s days b signature bytes made is signed same cert settled = record {
  cert = record { body = b; signature = bytes };
  text = cert;
  read = read_again (record { body = b; signature = bytes }) made.text cert;
  body = is;
  signed = (λ i. says (public_key s.key) (cert_message b) (same i)) ∙ signed.good;
  settled = settled;
  is_held = signed.is_held;
  size = subst (λ (x : List ℕ). length x ≤ longest_cert) (sym cert.spelling) cert.limits.size;
}
