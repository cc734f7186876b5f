use Rattle.std.proofs.Common.{ℕ, length, sym, subst, take, get_or, arith}
use Rattle.chip_slots.specs.declared.disk.memory.Step.TheVariants as step
use Rattle.chip_slots.specs.Steps.{IsWithin}
use Rattle.chip_slots.proofs.Replaying.{step_at, written_at, replayed_size, replayed_next}
use Rattle.chip_slots.proofs.disk.replay.replay.Goals as goal

pub replay_step-requires-clause-within : goal.replay_step-requires-clause-within
replay_step-requires-clause-within c =
    subst (λ (n : ℕ). IsWithin n (get_or c.args.steps.now c.loop-i.i step.Idle)) (sym (replayed_size c.args.first.now c.args.texts.now (take c.loop-i.i c.args.steps.now) c.loop-i.replayed c.loop-i.invariant)) (step_at (length c.args.first.now) c.args.steps.now c.loop-i.i step.Idle c.requires.within c.loop-i-test.true)

pub replay_step-requires-clause-texts : goal.replay_step-requires-clause-texts
replay_step-requires-clause-texts c = omega (arith, c.loop-i.invariant.taken, written_at c.args.steps.now c.loop-i.i step.Idle c.loop-i-test.true, c.requires.texts)

pub loop-i-preserved : goal.loop-i-preserved
loop-i-preserved c = replayed_next c.args.first.now c.args.texts.now c.args.steps.now c.loop-i.i step.Idle c.loop-i.replayed c.replay_step.new.replayed c.loop-i-test.true c.loop-i.invariant c.in_ok-replay_step.ensures
