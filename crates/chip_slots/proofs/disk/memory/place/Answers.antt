use Rattle.std.proofs.Common.{◌≡◌, ◌+◌, ◌-◌, length, arith}
use Rattle.chip_slots.proofs.Recordings.{part_is}
use Rattle.chip_slots.proofs.disk.memory.place.Goals as goal

pub returns : goal.returns
returns c =
    let size : c.args.at + length c.args.from.now - c.args.at ≡ length c.args.from.now = omega arith in
    part_is c.args.at _ c.args.from.now c.args.bytes.now c.copy_from_slice.new.self c.copy_from_slice.ensures.after size c.requires
