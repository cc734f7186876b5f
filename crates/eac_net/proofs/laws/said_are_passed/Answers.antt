use Rattle.eac_net.proofs.TrueVerdicts.{said_are_passed}
use Rattle.eac_net.proofs.laws.said_are_passed.Goals as goal

pub returns : goal.returns
returns c = said_are_passed
