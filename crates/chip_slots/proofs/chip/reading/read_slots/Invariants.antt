use Rattle.std.proofs.Common.{◌≡◌, ◌≤◌, ◌+◌}
use Rattle.chip_slots.specs.Image.{slot_says, greatest}
use Rattle.chip_slots.specs.Found.{seen, Stays}
use Rattle.chip_slots.proofs.chip.reading.read_slots.Given as goal

-- the slots before this one are read, and the disk stands as it stood
abbrev pub invariant-loop-slot : goal.invariant-loop-slot
invariant-loop-slot g l = record {
  tells : g.D.ChipDisk.tells l.fn.disk → g.D.ChipDisk.tells l.disk;
  size : g.D.ChipDisk.size l.disk ≡ g.D.ChipDisk.size l.fn.disk;
  least : g.D.ChipDisk.moment l.fn.disk ≤ g.D.ChipDisk.moment l.disk;
  most : g.D.ChipDisk.moment l.disk ≤ g.D.ChipDisk.moment l.fn.disk + l.slot;
  spare : g.D.ChipDisk.spare l.fn.disk ≤ g.D.ChipDisk.spare l.disk + l.slot;
  faults : g.D.ChipDisk.faults l.disk ≡ g.D.ChipDisk.faults l.fn.disk;
  stays : g.D.ChipDisk.tells l.fn.disk → Stays (g.D.ChipDisk.told l.fn.disk) (g.D.ChipDisk.told l.disk) (g.D.ChipDisk.moment l.fn.disk) (g.D.ChipDisk.moment l.disk);
  best : g.D.ChipDisk.tells l.fn.disk → seen l.best ≡ greatest (slot_says l.slots (g.D.ChipDisk.told l.fn.disk (g.D.ChipDisk.moment l.fn.disk)).bytes) l.slot;
}
