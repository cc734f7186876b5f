-- What was found in a memory, and what stands while it is looked for.
use Rattle.std.specs.Prelude.{◌≡◌, ◌≤◌, ◌<◌, ℕ, [], Option, Some, None}
use Rattle.chip_slots.specs.declared.chip.reading.Stored.{Stored}
use Rattle.chip_slots.specs.Crash.{Standing, Crash}
use Rattle.chip_slots.specs.Image.{Reading}
use Rattle.chip_slots.specs.Ready.{EachImage}

abbrev pub seen : Option Stored → Reading
seen None = None
seen (Some s) = Some (s.state, s.generation)

-- The same stands at each moment.
pub record Stays (past told : ℕ → Standing) (from to : ℕ) : Type 0 where
  pub later : from ≤ to
  pub keeps : (moment : ℕ) → moment ≤ from → told moment ≡ past moment
  pub each : (moment : ℕ) → from ≤ moment → moment ≤ to → told moment ≡ past from

-- No image is another one than a crash could leave at the start, and a read still gives what it gave then.
pub record IsLookedAt (past told : ℕ → Standing) (from to : ℕ) : Type 0 where
  pub works : EachImage (Crash (past from)) past told from to
  pub same : (told to).bytes ≡ (past from).bytes

-- It was made stable first: at each moment after the first one nothing is pending, and the bytes are those of the start.
pub record IsFoundIn (past told : ℕ → Standing) (from to : ℕ) : Type 0 where
  pub begun : from < to
  pub stable : (moment : ℕ) → from < moment → moment ≤ to → told moment ≡ record { bytes = (past from).bytes; pending = [] }
