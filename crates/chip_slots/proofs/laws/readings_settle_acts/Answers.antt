use Rattle.chip_slots.proofs.RunsOfActs.{still_kept, still_left, settled}
use Rattle.chip_slots.proofs.laws.readings_settle_acts.Goals as goal

pub returns-clause-kept : goal.returns-clause-kept
returns-clause-kept c = still_kept

pub returns-clause-left : goal.returns-clause-left
returns-clause-left c = still_left

pub returns-clause-settled : goal.returns-clause-settled
returns-clause-settled c = settled
