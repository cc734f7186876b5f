use Rattle.std.proofs.Common.{◌≡◌, take, reverse}
use Rattle.chip_slots.specs.Recorded.{torn_over}
use Rattle.chip_slots.proofs.disk.replay.tear.Given as goal

abbrev pub invariant-loop-i : goal.invariant-loop-i
invariant-loop-i l = l.bytes ≡ torn_over l.torn (reverse (take l.i l.ranges)) l.fn.bytes
