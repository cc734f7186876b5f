-- What was read, word by word.
use Rattle.std.proofs.Common.{◌≡◌, ℕ, Bool, List, [], ◌++◌, refl, sym, ◌∙◌, subst}
use Rattle.std.specs.Prelude.{Result, Ok, Err, IfOk}
use Rattle.std.proofs.lemmas.List.{append-nil}
use Rattle.signature_provider.specs.Provider.{PublicKey, Says, public_key}
use Rattle.signature_provider.specs.declared.key.Key.{Key}
use Rattle.cvc_grammar.specs.declared.certificate.Cert.{Cert}
use Rattle.cvc_grammar.specs.declared.certificate.CertBody.{CertBody}
use Rattle.cvc_grammar.specs.declared.certificate.CertView.{CertView}
use Rattle.cvc_grammar.specs.declared.refusal.CvcRefusal.{CvcRefusal}
use Rattle.cvc_grammar.specs.Certificate.{body_text}
use Rattle.cvc_grammar.specs.ReadingOrder.{read_cert}
use Rattle.cvc_grammar.specs.Views.{seen_cert, IsViewOf}
use Rattle.holder_core.specs.Readings.{cert_of, cert_message}
use Rattle.holder_core.specs.Taking.{IsRead, cert_said}

pub cert_read : (bytes : List ℕ) (r : Result Cert CvcRefusal) → read_cert bytes ≡ r → cert_of bytes ≡ r
unfolding cert_of
cert_read bytes r e = e

body_is : (b : CertBody) → body_text b ≡ cert_message b
unfolding cert_message
body_is b = refl

-- the view that a reading gave
pub is_read : (bytes : List ℕ) (v : CertView) → IsViewOf bytes v → IsRead v
is_read bytes v is = subst (λ (b : List ℕ). IsViewOf b v) (sym is.whole) is

-- the provider's verdict on a certificate that lies in an input
pub cert_asked : {E : Type 0} (says : Says) (v : CertView) (issuer : Key) (key : PublicKey) (result : Result Bool E) → IsRead v → IfOk result (λ b. b ≡ says key (v.body.now ++ []) v.signature.now) → key ≡ public_key issuer → IfOk result (λ b. b ≡ cert_said says (seen_cert v) issuer)
cert_asked says v issuer key (Ok b) is e k = e ∙ (λ i. says (k i) ((append-nil v.body.now ∙ is.body ∙ body_is (seen_cert v).body) i) v.signature.now)
cert_asked says v issuer key (Err f) is e k = tt
