use Rattle.chip_slots.proofs.ChipRuns.{first_kept}
use Rattle.chip_slots.proofs.laws.a_run_begins.Goals as goal

pub returns : goal.returns
returns c = first_kept
