use Rattle.std.proofs.Common.{None, inr, sym, ap, ◌∙◌}
use Rattle.chip_slots.specs.Found.{seen}
use Rattle.chip_slots.proofs.NextSlots.{found_stable}
use Rattle.chip_slots.proofs.chip.making.make_with.Goals as goal

pub returns-in-Err-store_state-clause-makes : goal.returns-in-Err-store_state-clause-makes
returns-in-Err-store_state-clause-makes g c = λ tells.
    let none = sym (ap seen c.in-Ok-None.field-0-is) ∙ c.in-Ok-None.ensures.found tells in
    let since = c.in-Ok-None.ensures.since tells in
    let stable = found_stable None _ _ _ _ none since in
    inr (
      sym none,
      record {
        mid = g.D.ChipDisk.told c.read_memory.new.disk;
        found = g.D.ChipDisk.moment c.read_memory.new.disk;
        looked = c.in-Ok-None.ensures.looked tells;
        stable = since;
        writes = c.store_state.ensures.images (c.in-Ok-None.ensures.calls.tells tells) None stable tt;
      },
    )

pub returns-in-Ok-clause-makes : goal.returns-in-Ok-clause-makes
returns-in-Ok-clause-makes g c = λ tells.
    let none = sym (ap seen c.in-Ok-None.field-0-is) ∙ c.in-Ok-None.ensures.found tells in
    let since = c.in-Ok-None.ensures.since tells in
    let told = c.in-Ok-None.ensures.calls.tells tells in
    let stable = found_stable None _ _ _ _ none since in (
      sym none,
      record {
        mid = g.D.ChipDisk.told c.read_memory.new.disk;
        found = g.D.ChipDisk.moment c.read_memory.new.disk;
        looked = c.in-Ok-None.ensures.looked tells;
        stable = since;
        writes = c.store_state.ensures.images told None stable tt;
      },
      c.in-Ok.ensures.done told None stable tt,
    )
