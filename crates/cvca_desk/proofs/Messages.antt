-- What is signed, word by word.
use Rattle.std.proofs.Common.{◌≡◌, ℕ, List, refl, ap, ◌∙◌}
use Rattle.std.specs.Prelude.{Ok}
use Rattle.cvc_grammar.specs.declared.certificate.Cert.{Cert}
use Rattle.cvc_grammar.specs.declared.certificate.CertBody.{CertBody}
use Rattle.cvc_grammar.specs.Certificate.{body_text, IsCert}
use Rattle.cvc_grammar.specs.ReadingOrder.{read_cert}
use Rattle.cvc_grammar.proofs.CertAgain.{cert_again}
use Rattle.holder_core.specs.Readings.{cert_of, cert_message}

pub body_is : (b : CertBody) → body_text b ≡ cert_message b
unfolding cert_message
body_is b = refl

-- what was written is read
pub read_again : (c : Cert) (bytes : List ℕ) → IsCert c bytes → cert_of bytes ≡ Ok c
unfolding cert_of
read_again c bytes is = ap read_cert is.spelling ∙ cert_again c is.fields is.limits
