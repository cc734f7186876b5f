use Rattle.std.proofs.Common.{take}
use Rattle.chip_slots.specs.Replays.{IsReplayed}
use Rattle.chip_slots.proofs.disk.replay.replay.Given as goal

abbrev pub invariant-loop-i : goal.invariant-loop-i
invariant-loop-i l = IsReplayed l.first (take l.i l.steps) l.texts l.replayed
