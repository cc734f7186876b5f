use Rattle.eac_net.proofs.Causes.{faults_have_causes}
use Rattle.eac_net.proofs.laws.faults_have_causes.Goals as goal

pub returns : goal.returns
returns c = faults_have_causes
