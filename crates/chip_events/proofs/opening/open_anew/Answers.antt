use Rattle.chip_events.proofs.LookTurns.{opens_after}
use Rattle.chip_events.proofs.opening.open_anew.Goals as goal

pub returns-clause-opened : goal.returns-clause-opened
returns-clause-opened g c = λ number.
    opens_after g.D.ChipDisk c.args.disk.now c.make_room.new.disk c.open_disk.new.disk c.make_room.ensures.same number c.open_disk.result (c.open_disk.ensures.opened number)
