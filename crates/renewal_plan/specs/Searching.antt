-- What the search for a plan keeps of the days that it has looked at (this project's own).
use Rattle.std.specs.Prelude.{◌≡◌, ◌+◌, ◌&&◌, ◌||◌, ℕ, max, Bool, nat_le, nat_lt, nat_eq, List, Option, Some, None, if◌then◌else◌}
use Rattle.std.specs.List.{list_any}
use Rattle.std.specs.BTreeSet.{BTreeSet, contains}
use Rattle.std.specs.Ordering.{nat_cmp}
use Rattle.renewal_plan.specs.Renewals.{Renewal, renewed_on}
use Rattle.renewal_plan.specs.declared.need.Need.{Need}

-- the set has these days
abbrev pub HasDays : BTreeSet ℕ → List ℕ → Type 0
HasDays set days = (day : ℕ) → contains nat_cmp set day ≡ list_any (nat_eq day) days

-- the day after what the holder has, from the first that is needed on
abbrev pub bare_from : ℕ → Option ℕ → ℕ
bare_from first None = first
bare_from first (Some have) = max first (have + 1)

-- Whether a renewal on the day may be the next one, where nothing is covered from `next` on. Where one certificate alone may be
-- valid, it is made just on that day.
abbrev pub is_offered : ℕ → ℕ → ℕ → Bool
is_offered live next day = nat_lt 1 live || (nat_eq live 1 && nat_eq day next)

-- of two renewals the one with the later last day, and the second of equals
abbrev pub later : Option Renewal → Renewal → Option Renewal
later None r = Some r
later (Some best) r = if nat_lt r.1 best.1 then Some best else Some r

abbrev pub later_if : Option Renewal → Option Renewal → Option Renewal
later_if best None = best
later_if best (Some r) = later best r

-- the best renewal of the days up to this one
abbrev pub best_by : Need → ℕ → Option Renewal → ℕ → Option Renewal
best_by need next best day = if is_offered need.live next day then later_if best (renewed_on need day) else best

-- the best one, where it ends on that day or later
abbrev pub reaching : Option Renewal → ℕ → Option Renewal
reaching None next = None
reaching (Some best) next = if nat_le next best.1 then Some best else None
