use Rattle.chip_slots.proofs.ImportActs.{import_act}
use Rattle.chip_slots.proofs.laws.imports_are_acts.Goals as goal

pub returns : goal.returns
returns g c = λ past told from to says k k' bytes result. import_act _ past told from to says k k' bytes result
