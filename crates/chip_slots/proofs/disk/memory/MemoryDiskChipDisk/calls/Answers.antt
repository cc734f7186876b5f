use Rattle.std.proofs.Common.{length, sym, ap, ◌∙◌}
use Rattle.chip_slots.specs.Recorded.{DiskValue}
use Rattle.chip_slots.proofs.Recordings.{seen_count}
use Rattle.chip_slots.proofs.disk.memory.MemoryDiskChipDisk.calls.Goals as goal

pub returns : goal.returns
returns c = ap length c.as_slice.ensures.value ∙ sym (seen_count c.self.inside.steps.items c.self.inside.texts.items) ∙ ap (λ (v : DiskValue). length v.done) c.self.view_is
