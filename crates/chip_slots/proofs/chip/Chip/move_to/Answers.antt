use Rattle.std.proofs.Common.{refl, inl, inr, rules}
use Rattle.chip_slots.specs.Chips.{read_as}
use Rattle.chip_slots.proofs.NextSlots.{idle_works, moved_session}
use Rattle.chip_slots.proofs.chip.Chip.move_to.Goals as goal

pub returns-then-is-clause-moves : goal.returns-then-is-clause-moves
returns-then-is-clause-moves g c = (
  refl,
  inl (record {
    same = search rules;
    chip = moved_session _ _ c.args.session c.self.view_is c.requires.ready;
    leaves = λ tells stable. idle_works (read_as c.args.self.now) _ _ stable;
    keeps = λ tells stable. stable;
  }),
)

pub returns-in-Ok-clause-moves : goal.returns-in-Ok-clause-moves
returns-in-Ok-clause-moves g c = (
  refl,
  inr (record {
    other = search rules;
    room = search rules;
    chip = c.in-Ok.ensures.ok;
    leaves = λ tells stable. c.in-Ok.ensures.images tells stable;
    keeps = λ tells stable. c.in-Ok.ensures.done tells stable;
  }),
)
