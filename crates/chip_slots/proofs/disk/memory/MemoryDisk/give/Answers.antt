use Rattle.std.proofs.Common.{Vec, Global, ℕ, ◌+◌, ◌≤◌, length, sym, subst}
use Rattle.chip_slots.specs.Recorded.{DiskValue}
use Rattle.chip_slots.proofs.Recordings.{fits_in}
use Rattle.chip_slots.proofs.disk.memory.MemoryDisk.give.Goals as goal

pub give_from-requires : goal.give_from-requires
give_from-requires c = fits_in (λ (v : Vec ℕ Global). v.items) _ _ c.self.inside.bytes _ _ c.self.invariant.0 (subst (λ (v : DiskValue). c.args.at + length c.args.into.now ≤ length v.first) (sym c.self.view_is) c.requires.range)
