use Rattle.std.proofs.Common.{refl}
use Rattle.chip_events.proofs.Untouched.{untouched_by}
use Rattle.eac_net.specs.Handed.{Unasked}
use Rattle.eac_net.specs.declared.event.Event.TheVariants as events
use Rattle.eac_net.proofs.Happenings.{undone_happens, happens_after, hands_none}
use Rattle.eac_net.proofs.chips.presenting.present_at.Goals as goal

pub returns-in-Err-clause-presents : goal.returns-in-Err-clause-presents
returns-in-Err-clause-presents g c day = (
  Unasked,
  hands_none g.B.Keeper c.args.keeper.now,
  undone_happens g.D.ChipDisk day c.args.number c.args.terminal c.args.disk.now c.args.disk.now _ _ _ c.args.world.now _ tt (record { day = refl; packets = refl; acks = refl; counts = λ other. c.reserve.ensures.kept other }) (untouched_by g.D.ChipDisk c.args.disk.now c.args.disk.now refl),
)

pub returns-in-Ok-clause-presents : goal.returns-in-Ok-clause-presents
returns-in-Ok-clause-presents g c day =
    let x = c.present_in_room.ensures.presents day in (
      x.0,
      x.1,
      happens_after g.D.ChipDisk day c.args.number (events.Present c.args.number c.args.terminal) c.args.disk.now c.present_in_room.new.disk _ x.0 c.present_in_room.result _ c.args.world.now _ c.present_in_room.new.world
          (record { day = refl; packets = refl; acks = refl; counts = λ other. c.reserve.ensures.kept other }) x.2,
    )
