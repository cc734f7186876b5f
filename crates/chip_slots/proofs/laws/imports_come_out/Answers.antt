use Rattle.chip_slots.proofs.ImportOutcomes.{outcome_of}
use Rattle.chip_slots.proofs.laws.imports_come_out.Goals as goal

pub returns : goal.returns
returns g c = λ past told from to says k k' bytes result ready imports. outcome_of _ past told from to says k k' ready bytes result imports
