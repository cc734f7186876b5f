-- What the code has in its hands, as the definitions speak of it.
use Rattle.std.specs.Prelude.{◌≡◌, List, ℕ, Some, None, true, false}
use Rattle.cvc_grammar.specs.declared.certificate.CertBody.{CertBody}
use Rattle.cvc_grammar.specs.declared.certificate.CertView.{CertView}
use Rattle.cvc_grammar.specs.Views.{seen_cert, IsViewOf}
use Rattle.chip_verify.specs.declared.answers.ImportRefusal.{ImportRefusal}
use Rattle.chip_verify.specs.declared.issuer.Voucher.{Voucher}
use Rattle.chip_verify.specs.declared.issuer.Voucher.TheVariants as voucher
use Rattle.chip_verify.specs.declared.checking.Weighed.{Weighed}
use Rattle.chip_verify.specs.declared.checking.Weighed.TheVariants.{Held, Refused, Ask}
use Rattle.chip_verify.specs.Trust.{Trust}
use Rattle.chip_verify.specs.Session.{SessionValue}
use Rattle.chip_verify.specs.Refusals.{Issuer, Point, Verifier, issuer_of, is_held, refusal_of}

-- The view is one of some input.
abbrev pub IsView : CertView → Type 0
IsView v = (bytes : List ℕ) × IsViewOf bytes v

abbrev pub seen_body : CertView → CertBody
seen_body v = (seen_cert v).body

abbrev pub seen_issuer : Voucher → Issuer
seen_issuer (voucher.Point p) = Point p.now
seen_issuer (voucher.Verifier v) = Verifier v.now

-- The certificate may be taken, by this issuer.
pub record MayBeTaken (t : Trust) (s : SessionValue) (c : CertBody) (i : Issuer) : Type 0 where
  pub named : issuer_of t s c ≡ Some i
  pub not_held : is_held t c ≡ false
  pub allowed : refusal_of t s c ≡ None

pub record IsRefusedBy (t : Trust) (s : SessionValue) (c : CertBody) (k : ImportRefusal) : Type 0 where
  pub not_held : is_held t c ≡ false
  pub row : refusal_of t s c ≡ Some k

abbrev pub Weighs : Trust → SessionValue → CertBody → Weighed → Type 0
Weighs t s c Held = is_held t c ≡ true
Weighs t s c (Refused k) = IsRefusedBy t s c k
Weighs t s c (Ask v) = MayBeTaken t s c (seen_issuer v)
