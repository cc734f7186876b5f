use Rattle.std.proofs.Common.{ℕ, List, ◌+◌, ◌∙◌, ap, sym, set, arith}
use Rattle.chip_slots.proofs.Replaying.{put_none, put_next}
use Rattle.chip_slots.proofs.disk.replay.fill.Goals as goal

pub loop-i-init : goal.loop-i-init
loop-i-init c = sym (put_none c.args.at c.args.bytes.now)

pub loop-i-preserved : goal.loop-i-preserved
loop-i-preserved c =
    ap (λ (b : List ℕ). set b (c.args.at + c.loop-i.i) c.args.torn) c.loop-i.invariant
    ∙ put_next c.args.at c.loop-i.i c.args.torn c.args.bytes.now (omega (arith, c.requires, c.loop-i-test.true))
