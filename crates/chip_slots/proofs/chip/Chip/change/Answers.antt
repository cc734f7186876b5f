use Rattle.chip_slots.specs.Chips.{read_as}
use Rattle.chip_slots.proofs.NextSlots.{works_next, stable_next}
use Rattle.chip_slots.proofs.chip.Chip.change.Goals as goal

pub returns-in-Err-clause-images : goal.returns-in-Err-clause-images
returns-in-Err-clause-images g c = λ tells stable. works_next (read_as c.args.self.now) c.args.state _ _ _ _ _ _ c.requires.next (c.store_state.ensures.images tells (read_as c.args.self.now) stable c.requires.next)

pub returns-in-Ok-clause-images : goal.returns-in-Ok-clause-images
returns-in-Ok-clause-images g c = λ tells stable. works_next (read_as c.args.self.now) c.args.state _ _ _ _ _ _ c.requires.next (c.store_state.ensures.images tells (read_as c.args.self.now) stable c.requires.next)

pub returns-in-Ok-clause-done : goal.returns-in-Ok-clause-done
returns-in-Ok-clause-done g c = λ tells stable. stable_next c.args.state _ _ _ c.requires.next (c.in-Ok.ensures.done tells (read_as c.args.self.now) stable c.requires.next)
