-- Which day it is, as a clock gives it (this project's own).
use Rattle.std.specs.Prelude.{◌≡◌, ℕ, ◌+◌, ◌-◌, ◌/◌, List, [], ◌∷◌, ◌++◌, nat_le, if◌then◌else◌, Option, Some, None, Result, Ok, Err}
use Rattle.eac_base.specs.Planned.{next_count}
use Rattle.cv_dates.specs.Calendar.{day_at}

-- a told list of days grows by the day that is given, and by nothing where the call fails
abbrev pub GivesDay : {E : Type 0} → Option (List ℕ) → Option (List ℕ) → Result ℕ E → Type 0
GivesDay None new result = new ≡ None
GivesDay (Some days) new (Ok day) = new ≡ Some (days ++ day ∷ [])
GivesDay (Some days) new (Err e) = new ≡ Some days

-- A clock in memory: its day, how often it gave it, its plan, and its numbers of calls and of faults.
pub record ClockValue : Type 0 where
  pub day : ℕ
  pub given : ℕ
  pub plan : List ℕ
  pub calls : ℕ
  pub faults : ℕ

-- a clock after a call with this result
abbrev pub after_today : {E : Type 0} → ClockValue → Result ℕ E → ClockValue
after_today c (Ok day) = record c { given = c.given + 1; calls = next_count c.calls }
after_today c (Err e) = record c { calls = next_count c.calls; faults = next_count c.faults }

-- The UTC day of so many seconds after 1970-01-01, which is 10,957 days before 2000-01-01.
abbrev pub utc_day : ℕ → Option ℕ
utc_day seconds = if nat_le 10957 (seconds / 86400) then day_at (seconds / 86400 - 10957) else None
