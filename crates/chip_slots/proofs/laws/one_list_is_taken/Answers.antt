use Rattle.chip_slots.proofs.ChipRuns.{taken_once}
use Rattle.chip_slots.proofs.laws.one_list_is_taken.Goals as goal

pub returns : goal.returns
returns c = taken_once
