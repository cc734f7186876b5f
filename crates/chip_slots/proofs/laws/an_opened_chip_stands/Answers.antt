use Rattle.chip_slots.proofs.ChipRuns.{opening_stands, opening_settles}
use Rattle.chip_slots.proofs.laws.an_opened_chip_stands.Goals as goal

pub returns-clause-kept : goal.returns-clause-kept
returns-clause-kept c = opening_stands

pub returns-clause-settled : goal.returns-clause-settled
returns-clause-settled c = opening_settles
