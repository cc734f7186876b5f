-- Renewals of a certificate by the certificates that its authority has (validity after BSI TR-03139; the rest is this project's
-- own).
use Rattle.std.specs.Prelude.{◌≡◌, ◌<◌, ◌≤◌, ◌&&◌, ℕ, Bool, nat_le, nat_lt, nat_eq, List, [], ◌∷◌, length, map, filter, Option, Some, None, if◌then◌else◌}
use Rattle.std.specs.List.{list_any}
use Rattle.policy_limits.specs.Validity.{validity}
use Rattle.renewal_plan.specs.declared.need.Need.{Need}

-- The day of a renewal, and the last day of the certificate that is then made.
abbrev pub Renewal : Type 0
Renewal = ℕ × ℕ

-- ---- the authority's certificate

-- the later one to begin of two that began by the day, and the second of equals
abbrev pub begun_last : ℕ → ℕ × ℕ → Option (ℕ × ℕ) → Option (ℕ × ℕ)
begun_last day span None = if nat_le span.0 day then Some span else None
begun_last day span (Some other) = if nat_le span.0 day && nat_lt other.0 span.0 then Some span else Some other

-- Of those that began by the day the one that began last, and of equals the last in the list.
abbrev pub authority_on : ℕ → List (ℕ × ℕ) → Option (ℕ × ℕ)
authority_on day [] = None
authority_on day (span ∷ spans) = begun_last day span (authority_on day spans)

-- ---- a renewal on a day

abbrev pub is_closed : Need → ℕ → Bool
is_closed need day = list_any (nat_eq day) need.closed

-- under an authority's certificate that isn't expired
abbrev pub renewed_under : Need → ℕ → Option (ℕ × ℕ) → Option Renewal
renewed_under need day None = None
renewed_under need day (Some span) = if nat_le day span.1 then validity day need.days span.1 need.minimum else None

-- What a renewal on the day gives; none on a closed day, and where the authority has no certificate that is valid long enough.
abbrev pub renewed_on : Need → ℕ → Option Renewal
renewed_on need day = if is_closed need day then None else renewed_under need day (authority_on day need.authorities)

-- ---- a renewal after others

-- the last days of what the holder has and of the certificates that were made
abbrev pub last_days : Option ℕ → List Renewal → List ℕ
last_days (Some have) earlier = have ∷ map (λ (r : Renewal). r.1) earlier
last_days None earlier = map (λ (r : Renewal). r.1) earlier

-- how many of these last days aren't before the day
abbrev pub live_on : ℕ → List ℕ → ℕ
live_on day ends = length (filter (nat_le day) ends)

abbrev pub AreBefore : ℕ → List Renewal → Type 0
AreBefore day [] = Unit {0}
AreBefore day (r ∷ earlier) = (r.0 < day) × AreBefore day earlier

-- A renewal may follow these, which stand in any order: it comes later, and fewer certificates than the limit are valid on its day.
pub record IsRenewal (need : Need) (earlier : List Renewal) (r : Renewal) : Type 0 where
  pub since : need.first ≤ r.0
  pub until : r.0 ≤ need.last
  pub made : renewed_on need r.0 ≡ Some r
  pub rising : AreBefore r.0 earlier
  pub live : live_on r.0 (last_days need.have earlier) < need.live
