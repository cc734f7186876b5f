use Rattle.std.proofs.Common.{length, take, reverse, ◌∙◌, ap}
use Rattle.chip_slots.proofs.Replaying.{range_in, torn_size}
use Rattle.chip_slots.proofs.disk.replay.tear.Goals as goal

pub fill-requires : goal.fill-requires
fill-requires c =
    let size = ap length c.loop-i.invariant ∙ torn_size c.args.torn (reverse (take c.loop-i.i c.args.ranges.now)) c.args.bytes.now in
    range_in c.args.ranges.now c.loop-i.i _ c.args.bytes.now c.loop-i.bytes size c.requires c.loop-i-test.true
