use Rattle.chip_slots.proofs.ChipRuns.{made_kept, made_open}
use Rattle.chip_slots.proofs.laws.a_making_is_an_act.Goals as goal

pub returns-clause-kept : goal.returns-clause-kept
returns-clause-kept c = made_kept

pub returns-clause-left : goal.returns-clause-left
returns-clause-left c = made_open
