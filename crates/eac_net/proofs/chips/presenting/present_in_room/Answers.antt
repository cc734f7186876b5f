use Rattle.std.proofs.Common.{subst}
use Rattle.std.specs.declared.result.Result.{Result}
use Rattle.chip_slots.specs.Chips.{ChipValue}
use Rattle.chip_slots.specs.declared.answers.ChipRefusal.{ChipRefusal}
use Rattle.chip_events.specs.DiskTurns.{OpensTo}
use Rattle.eac_base.specs.declared.failures.NoMemory.{NoMemory}
use Rattle.eac_net.specs.Counts.{count_at}
use Rattle.eac_net.specs.Handed.{Unasked}
use Rattle.eac_net.specs.declared.answer.Answer.TheVariants as answers
use Rattle.eac_net.specs.declared.answer.Presented.TheVariants as presented
use Rattle.eac_net.proofs.Happenings.{same_world, undone_happens, unopened_happens, told_tells, hands_none}
use Rattle.eac_net.proofs.chips.presenting.present_in_room.Goals as goal

pub returns-in-Err-clause-presents : goal.returns-in-Err-clause-presents
returns-in-Err-clause-presents g c day = (
  Unasked,
  hands_none g.B.Keeper c.args.keeper.now,
  undone_happens g.D.ChipDisk day c.args.number c.args.terminal c.args.disk.now c.open_for.new.disk _ _ _ c.args.world.now c.args.world.now tt (same_world c.args.world.now) c.in-Err.ensures.wanting,
)

pub returns-in-Ok-Err-clause-presents : goal.returns-in-Ok-Err-clause-presents
returns-in-Ok-Err-clause-presents g c day = (
  Unasked,
  hands_none g.B.Keeper c.args.keeper.now,
  unopened_happens g.D.ChipDisk day c.args.number c.args.terminal c.args.disk.now c.open_for.new.disk _ _ _ c.args.world.now c.args.world.now c.in-Ok-Err.refusal
      (told_tells NoMemory c.told.result (answers.Presented (presented.NotOpened c.in-Ok-Err.refusal)) c.told.ensures.answer c.told.ensures.sent) (same_world c.args.world.now)
      (subst (λ (o : Result ChipValue ChipRefusal). OpensTo g.D.ChipDisk c.args.disk.now c.open_for.new.disk (count_at c.args.world.now.imports c.args.number) o) c.in-Ok-Err.field-0-is (c.in-Ok-Err.ensures.opened (count_at c.args.world.now.imports c.args.number))),
)

pub returns-in-Ok-Ok-clause-presents : goal.returns-in-Ok-Ok-clause-presents
returns-in-Ok-Ok-clause-presents g c day = c.present_opened.ensures.presents day c.args.disk.now
    (subst (λ (o : Result ChipValue ChipRefusal). OpensTo g.D.ChipDisk c.args.disk.now c.open_for.new.disk (count_at c.args.world.now.imports c.args.number) o) c.in-Ok-Ok.field-0-is (c.in-Ok-Ok.ensures.opened (count_at c.args.world.now.imports c.args.number)))
