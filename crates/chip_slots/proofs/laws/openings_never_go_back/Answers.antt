use Rattle.chip_slots.proofs.ChipRuns.{never_back}
use Rattle.chip_slots.proofs.laws.openings_never_go_back.Goals as goal

pub returns : goal.returns
returns c = never_back c.later_never_goes_back.ensures.same c.later_never_goes_back.ensures.composes c.each_step_is_later.ensures.later c.each_step_is_later.ensures.trust
