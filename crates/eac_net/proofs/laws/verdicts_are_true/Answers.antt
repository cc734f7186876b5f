use Rattle.eac_net.proofs.TrueVerdicts.{verdicts_are_true}
use Rattle.eac_net.proofs.laws.verdicts_are_true.Goals as goal

pub returns : goal.returns
returns c = verdicts_are_true
