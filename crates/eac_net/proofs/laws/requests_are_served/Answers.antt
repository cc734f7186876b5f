use Rattle.eac_net.proofs.Served.{requests_are_served}
use Rattle.eac_net.proofs.laws.requests_are_served.Goals as goal

pub returns : goal.returns
returns c = requests_are_served
