-- How often a stream is read (this project's own).
use Rattle.std.specs.Prelude.{◌≡◌, ℕ, ◌+◌, ◌≤◌, Some, None}
use Rattle.std.specs.declared.option.Option.{Option}
use Rattle.eac_base.specs.Planned.{next_count}

-- a told number of reads goes up by one, and stays at its last value
abbrev pub CountsRead : Option ℕ → Option ℕ → Type 0
CountsRead None new = new ≡ None
CountsRead (Some reads) new = new ≡ Some (next_count reads)

-- a told number of reads went up by at most so many
abbrev pub TurnsAtMost : Option ℕ → Option ℕ → ℕ → Type 0
TurnsAtMost None new n = new ≡ None
TurnsAtMost (Some before) None n = ⊥
TurnsAtMost (Some before) (Some now) n = now ≤ before + n
