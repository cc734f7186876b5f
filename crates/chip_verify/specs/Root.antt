-- What a chip is made with (BSI TR-03110-3, trust points are stored when a chip is made; which certificates serve is this
-- project's own).
use Rattle.std.specs.Prelude.{◌&&◌, ℕ, Option, Some, None, Bool, not, if◌then◌else◌}
use Rattle.eac_base.specs.Bytes.{is_empty}
use Rattle.signature_provider.specs.Key.{is_elliptic}
use Rattle.signature_provider.specs.Provider.{public_key}
use Rattle.cvc_grammar.specs.declared.certificate.CertBody.{CertBody}
use Rattle.chip_verify.specs.declared.trust_point.TrustPoint.{TrustPoint}
use Rattle.chip_verify.specs.Trust.{Trust, certified}
use Rattle.chip_verify.specs.Refusals.{sort_of, is_link}

-- An authority's certificate whose key needs no other's domain.
abbrev pub is_root : CertBody → Bool
is_root c = is_link (sort_of c.template.role) && not (is_elliptic c.key.algorithm && is_empty c.key.domain)

abbrev pub root_point : CertBody → TrustPoint
root_point c = certified c (public_key c.key)

-- The trust of a chip that is made with this certificate on this day.
abbrev pub first_trust : CertBody → ℕ → Option Trust
first_trust c day = if is_root c then Some (record { day = day; older = None; newest = root_point c }) else None
