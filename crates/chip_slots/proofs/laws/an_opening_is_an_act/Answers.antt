use Rattle.chip_slots.proofs.ChipRuns.{opening_kept}
use Rattle.chip_slots.proofs.laws.an_opening_is_an_act.Goals as goal

pub returns : goal.returns
returns c = opening_kept
