-- How a disk in memory writes its calls down: the bytes of all its writes lie one behind another.
use Rattle.std.specs.Prelude.{◌≡◌, ◌≤◌, ◌+◌, ◌/◌, ℕ, List, [], ◌∷◌, min, take, drop, Some, None}
use Rattle.std.specs.declared.option.Option.{Option}
use Rattle.chip_slots.specs.declared.disk.memory.Step.{Step}
use Rattle.chip_slots.specs.declared.disk.memory.Step.TheVariants as step
use Rattle.chip_slots.specs.Recorded.{Did, Idle, Wrote, Torn, Synced, played, fresh}

-- How many bytes a call wrote.
abbrev pub written : Step → ℕ
written step.Idle = 0
written (step.Wrote at size) = size
written (step.Torn at size) = 0
written step.Synced = 0

-- The call, whose bytes lie at the front.
abbrev pub did_of : Step → List ℕ → Did
did_of step.Idle texts = Idle
did_of (step.Wrote at size) texts = Wrote at (take size texts)
did_of (step.Torn at size) texts = Torn at size
did_of step.Synced texts = Synced

abbrev pub seen : List Step → List ℕ → List Did
seen [] texts = []
seen (s ∷ steps) texts = did_of s texts ∷ seen steps (drop (written s) texts)

abbrev pub all_written : List Step → ℕ
all_written [] = 0
all_written (s ∷ steps) = written s + all_written steps

-- What stands now is kept once there is room for calls. Before that there was none.
abbrev pub KeepsNow : List ℕ → List Did → Option (List ℕ) → Type 0
KeepsNow first done None = done ≡ []
KeepsNow first done (Some now) = now ≡ (played (fresh first) done).bytes

abbrev pub room : Option (List ℕ) → ℕ → ℕ → ℕ
room None calls bytes = 0
room (Some now) calls bytes = min calls (bytes / 8192)

-- A write lies within so many bytes.
abbrev pub IsWithin : ℕ → Step → Type 0
IsWithin bytes step.Idle = Unit {0}
IsWithin bytes (step.Wrote at size) = at + size ≤ bytes
IsWithin bytes (step.Torn at size) = at + size ≤ bytes
IsWithin bytes step.Synced = Unit {0}

abbrev pub AreWithin : ℕ → List Step → Type 0
AreWithin bytes [] = Unit {0}
AreWithin bytes (s ∷ steps) = IsWithin bytes s × AreWithin bytes steps

-- The same of ranges.
abbrev pub AreRanges : ℕ → List (ℕ × ℕ) → Type 0
AreRanges bytes [] = Unit {0}
AreRanges bytes (r ∷ ranges) = (r.0 + r.1 ≤ bytes) × AreRanges bytes ranges
