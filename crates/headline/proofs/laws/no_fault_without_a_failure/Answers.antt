use Rattle.headline.proofs.Quoted.{no_fault_without_a_failure}
use Rattle.headline.proofs.laws.no_fault_without_a_failure.Goals as goal

pub returns : goal.returns
returns g c = no_fault_without_a_failure g.D.ChipDisk
