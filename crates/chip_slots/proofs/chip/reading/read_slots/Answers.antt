use Rattle.std.proofs.Common.{◌∙◌, arith}
use Rattle.chip_slots.specs.Found.{seen}
use Rattle.chip_slots.proofs.Looking.{stays_read, stays_now, best_next}
use Rattle.chip_slots.proofs.chip.reading.read_slots.Goals as goal

pub loop-slot-preserved : goal.loop-slot-preserved
loop-slot-preserved g c = record {
  tells = λ t. c.in-Ok.ensures.calls.tells (c.loop-slot.invariant.tells t);
  size = c.in-Ok.ensures.calls.size ∙ c.loop-slot.invariant.size;
  least = omega (arith, c.loop-slot.invariant.least, c.in-Ok.ensures.calls.later);
  most = omega (arith, c.loop-slot.invariant.most, c.in-Ok.ensures.calls.soon);
  spare = omega (arith, c.loop-slot.invariant.spare, c.in-Ok.ensures.calls.spare);
  faults = c.in-Ok.ensures.cause.quiet ∙ c.loop-slot.invariant.faults;
  stays = λ t. stays_read _ _ _ _ _ _ _ (c.loop-slot.invariant.stays t) (c.in-Ok.ensures.call (c.loop-slot.invariant.tells t));
  best = λ t. best_next c.args.slots c.loop-slot.slot _ _ (seen c.greater-best.result) (seen c.in-Ok.found) (seen c.loop-slot.best) (stays_now _ _ _ _ (c.loop-slot.invariant.stays t)) c.greater-best.ensures (c.in-Ok.ensures.says (c.loop-slot.invariant.tells t)) (c.loop-slot.invariant.best t);
}
