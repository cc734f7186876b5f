use Rattle.std.proofs.Common.{◌-◌}
use Rattle.chip_slots.proofs.disk.file.fill.Given as goal

abbrev pub decreases-loop-at : goal.decreases-loop-at
decreases-loop-at l = l.size - l.at
