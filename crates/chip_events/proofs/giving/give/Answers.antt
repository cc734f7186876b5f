use Rattle.chip_events.proofs.Showing.{hand_after}
use Rattle.chip_events.proofs.giving.give.Goals as goal

pub returns-clause-turn : goal.returns-clause-turn
returns-clause-turn g c =
    hand_after g.D.ChipDisk g.P.SignatureProvider c.args.disk.now c.make_room.new.disk c.give_in_room.new.disk c.make_room.ensures.same c.args.provider.now c.give_in_room.new.provider c.args.imports.now c.give_in_room.new.imports
    c.args.acks.now.acks c.reserve.new.self.acks c.give_in_room.new.acks.acks c.reserve.ensures.kept c.args.chip.now c.give_in_room.new.chip _ _ c.give_in_room.ensures.turn
