-- Calls that are played again.
use Rattle.std.specs.Prelude.{◌≡◌, ◌+◌, ℕ, List, drop, reverse, length}
use Rattle.chip_slots.specs.declared.disk.memory.Step.{Step}
use Rattle.chip_slots.specs.declared.disk.replay.Replayed.{Replayed}
use Rattle.chip_slots.specs.Crash.{Standing}
use Rattle.chip_slots.specs.Recorded.{after_call, played, fresh}
use Rattle.chip_slots.specs.Steps.{did_of, seen, written, all_written, AreRanges}

abbrev pub stood : Replayed → Standing
stood r = record { bytes = r.bytes.items; pending = reverse r.pending.items }

pub record ReplaysTo (step : Step) (texts : List ℕ) (old new : Replayed) : Type 0 where
  pub stands : stood new ≡ after_call (did_of step (drop old.taken texts)) (stood old)
  pub taken : new.taken ≡ old.taken + written step
  pub ranges : AreRanges (length old.bytes.items) old.pending.items → AreRanges (length new.bytes.items) new.pending.items

-- All of these calls were played, from these bytes on.
pub record IsReplayed (first : List ℕ) (steps : List Step) (texts : List ℕ) (r : Replayed) : Type 0 where
  pub stands : stood r ≡ played (fresh first) (seen steps texts)
  pub taken : r.taken ≡ all_written steps
  pub ranges : AreRanges (length r.bytes.items) r.pending.items
