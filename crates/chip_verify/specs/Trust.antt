-- What a chip trusts (BSI TR-03110-3, trust points; that there are one or two of them in this order, and what each of
-- them is, is this project's own).
use Rattle.std.specs.Prelude.{◌≡◌, ◌≢◌, ◌<◌, ℕ, List, [], ◌∷◌, Option, Some, None, IfSome, IsTrue, not}
use Rattle.eac_base.specs.Bytes.{is_empty}
use Rattle.chat_rights.specs.declared.Role.TheVariants.{Cvca}
use Rattle.signature_provider.specs.Key.{is_algorithm}
use Rattle.signature_provider.specs.Provider.{PublicKey}
use Rattle.cvc_grammar.specs.declared.certificate.CertBody.{CertBody}
use Rattle.chip_verify.specs.declared.trust_point.TrustPoint.{TrustPoint}

-- The chip's day and its points. The chip has no clock: its day is the latest effective date that it could rely on.
pub record Trust : Type 0 where
  pub day : ℕ
  pub older : Option TrustPoint
  pub newest : TrustPoint

abbrev pub older_points : Option TrustPoint → List TrustPoint
older_points None = []
older_points (Some p) = p ∷ []

-- The points, the newest first.
abbrev pub points : Trust → List TrustPoint
points t = t.newest ∷ older_points t.older

-- The point that a certificate makes, with this key.
abbrev pub certified : CertBody → PublicKey → TrustPoint
certified c key = record { reference = c.holder; template = c.template; from = c.from; until = c.until; key = key }

-- The first point comes before the second: their references differ, and it takes effect earlier.
pub record ComesBefore (older newest : TrustPoint) : Type 0 where
  pub reference : older.reference ≢ newest.reference
  pub from : older.from < newest.from

-- An older point comes before the newest.
pub record IsTrust (t : Trust) : Type 0 where
  pub older : IfSome t.older (λ p. ComesBefore p t.newest)

-- A point is an authority's, and its key has a known algorithm and a point.
pub record IsPoint (p : TrustPoint) : Type 0 where
  pub role : p.template.role ≡ Cvca
  pub algorithm : IsTrue (is_algorithm p.key.algorithm)
  pub key : IsTrue (not (is_empty p.key.point))

-- What a chip may keep: a trust of such points.
pub record IsLegalTrust (t : Trust) : Type 0 where
  pub trust : IsTrust t
  pub newest : IsPoint t.newest
  pub older : IfSome t.older IsPoint
