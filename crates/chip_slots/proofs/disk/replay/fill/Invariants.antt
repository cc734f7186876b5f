use Rattle.std.proofs.Common.{◌≡◌, replicate}
use Rattle.chip_slots.specs.Recorded.{put}
use Rattle.chip_slots.proofs.disk.replay.fill.Given as goal

abbrev pub invariant-loop-i : goal.invariant-loop-i
invariant-loop-i l = l.bytes ≡ put l.at (replicate l.i l.torn) l.fn.bytes
