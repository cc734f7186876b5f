-- The points that a record has.
use Rattle.std.specs.Prelude.{Option, IfSome}
use Rattle.chip_verify.specs.declared.trust_point.TrustPoint.{TrustPoint}
use Rattle.chip_verify.specs.Trust.{ComesBefore, IsPoint}

-- Points that a chip may keep.
pub record ArePoints (older : Option TrustPoint) (newest : TrustPoint) : Type 0 where
  pub newest_point : IsPoint newest
  pub older_point : IfSome older IsPoint
  pub order : IfSome older (λ p. ComesBefore p newest)
