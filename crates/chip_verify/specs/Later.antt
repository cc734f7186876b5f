-- A trust that may stand after another: no date falls, and no replaced point comes back (this project's own).
use Rattle.std.specs.Prelude.{◌≡◌, ◌<◌, ◌≤◌, ◌⊎◌, List, [], ◌∷◌}
use Rattle.chip_verify.specs.declared.trust_point.TrustPoint.{TrustPoint}
use Rattle.chip_verify.specs.Trust.{Trust, points}

-- The point is one of these, the whole value.
abbrev pub IsAmong : TrustPoint → List TrustPoint → Type 0
IsAmong p [] = ⊥
IsAmong p (q ∷ qs) = (p ≡ q) ⊎ IsAmong p qs

-- The point takes effect after each of these.
abbrev pub IsAfterAll : TrustPoint → List TrustPoint → Type 0
IsAfterAll p [] = Unit {0}
IsAfterAll p (q ∷ qs) = (q.from < p.from) × IsAfterAll p qs

-- Each point of the second list stands in the first, or takes effect after all of it.
abbrev pub KeptOrNew : List TrustPoint → List TrustPoint → Type 0
KeptOrNew old [] = Unit {0}
KeptOrNew old (p ∷ ps) = (IsAmong p old ⊎ IsAfterAll p old) × KeptOrNew old ps

pub record Later (t t' : Trust) : Type 0 where
  pub day : t.day ≤ t'.day
  pub newest : t.newest.from ≤ t'.newest.from
  pub points : KeptOrNew (points t) (points t')
