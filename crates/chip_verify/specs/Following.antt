-- What the code knows of a certificate that it takes, and what it makes of it.
use Rattle.std.specs.Prelude.{◌≡◌, ◌≢◌, ◌<◌, ◌≤◌, length, IsTrue, not}
use Rattle.eac_base.specs.Bytes.{is_empty}
use Rattle.chat_rights.specs.declared.Role.TheVariants.{Cvca}
use Rattle.signature_provider.specs.Key.{is_algorithm}
use Rattle.cvc_grammar.specs.declared.certificate.CertBody.{CertBody}
use Rattle.cvc_grammar.specs.declared.certificate.CertView.{CertView}
use Rattle.chip_verify.specs.declared.answers.Judged.{Judged}
use Rattle.chip_verify.specs.declared.answers.Judged.TheVariants.{Next}
use Rattle.chip_verify.specs.Trust.{Trust}
use Rattle.chip_verify.specs.Session.{SessionValue}
use Rattle.chip_verify.specs.Refusals.{Issuer, sort_of}
use Rattle.chip_verify.specs.Step.{trust_after, session_after, imported_as}

-- The parts of the key have room in a chip's key.
pub record KeyFits (v : CertView) : Type 0 where
  pub domain : length v.key.domain.now ≤ 1024
  pub point : length v.key.point.now ≤ 1024

-- The certificate makes a point that may follow the newest one.
pub record LinkFits (t : Trust) (c : CertBody) : Type 0 where
  pub role : c.template.role ≡ Cvca
  pub algorithm : IsTrue (is_algorithm c.key.algorithm)
  pub point : IsTrue (not (is_empty c.key.point))
  pub reference : t.newest.reference ≢ c.holder
  pub from : t.newest.from < c.from

-- What follows from a certificate that is taken by this issuer.
abbrev pub following : Trust → SessionValue → CertBody → Issuer → Judged
following t s c i =
    Next (trust_after (sort_of c.template.role) t s c i) (session_after (sort_of c.template.role) s c i) (imported_as (sort_of c.template.role))
