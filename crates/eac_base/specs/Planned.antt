-- The memory forms of the outside, whose calls fail by a plan of call numbers, counted from 1 (this project's own).
use Rattle.std.specs.Prelude.{ℕ, ◌+◌, ◌-◌, ◌^◌, ◌<◌, min, List, ◌++◌, take, drop, Contains, Result, Ok, Err}

-- a number of calls goes up by one, and stays at its last value
abbrev pub next_count : ℕ → ℕ
next_count calls = min (calls + 1) (2 ^ 64 - 1)

-- the call after so many calls stands in the plan; a call that isn't counted any more doesn't
abbrev pub IsPlanned : List ℕ → ℕ → Type 0
IsPlanned plan calls = (calls < 2 ^ 64 - 1) × Contains plan (calls + 1)

-- A source in memory: the bytes that are left, how many were given, the most that one read gives, the place over
-- which no read goes, its plan, and its numbers of calls and of faults.
pub record SourceValue : Type 0 where
  pub left : List ℕ
  pub given : ℕ
  pub most : ℕ
  pub cut : ℕ
  pub plan : List ℕ
  pub calls : ℕ
  pub faults : ℕ

-- a source after a read with this result: what it was made with stays
abbrev pub after_read : {E : Type 0} → SourceValue → Result ℕ E → SourceValue
after_read s (Ok n) = record s { left = drop n s.left; given = s.given + n; calls = next_count s.calls }
after_read s (Err e) = record s { calls = next_count s.calls; faults = next_count s.faults }

-- A sink in memory: the bytes that were taken, the room that is left, its plan, and its numbers of calls and of faults.
pub record SinkValue : Type 0 where
  pub taken : List ℕ
  pub room : ℕ
  pub plan : List ℕ
  pub calls : ℕ
  pub faults : ℕ

-- a sink after a write of this piece with this result: no room is lost
abbrev pub after_write : {E : Type 0} → SinkValue → List ℕ → Result ℕ E → SinkValue
after_write s from (Ok n) = record s { taken = s.taken ++ take n from; room = s.room - n; calls = next_count s.calls }
after_write s from (Err e) = record s { calls = next_count s.calls; faults = next_count s.faults }
