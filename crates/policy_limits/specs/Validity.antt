-- How long a certificate may be valid (after BSI TR-03139; the numbers are this project's own).
use Rattle.std.specs.Prelude.{ℕ, ◌+◌, min, Bool, nat_le, Option, Some, None, if◌then◌else◌}
use Rattle.eac_base.specs.Bytes.{is_within}
use Rattle.chat_rights.specs.declared.Role.{Role}
use Rattle.chat_rights.specs.declared.Role.TheVariants.{Cvca, Domestic, Foreign, Terminal}

-- ---- days by role

abbrev pub minimum_days : Role → ℕ
minimum_days Cvca = 183
minimum_days Domestic = 14
minimum_days Foreign = 14
minimum_days Terminal = 1

abbrev pub maximum_days : Role → ℕ
maximum_days Cvca = 1096
maximum_days Domestic = 92
maximum_days Foreign = 92
maximum_days Terminal = 31

abbrev pub fits_role : Role → ℕ → Bool
fits_role role days = is_within (minimum_days role) (maximum_days role) days

-- ---- the two dates of a certificate

-- So many days later, and no later than the last day.
abbrev pub end_by : ℕ → ℕ → ℕ → ℕ
end_by day days last = min (day + days) last

-- From this day up to that one; none where the second is less than the minimum of days after the first.
abbrev pub validity : ℕ → ℕ → ℕ → ℕ → Option (ℕ × ℕ)
validity day days last minimum = if nat_le (day + minimum) (end_by day days last) then Some (day, end_by day days last) else None
