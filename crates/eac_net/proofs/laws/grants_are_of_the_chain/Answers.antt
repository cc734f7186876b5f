use Rattle.eac_net.proofs.Grants.{grants_are_of_the_chain}
use Rattle.eac_net.proofs.laws.grants_are_of_the_chain.Goals as goal

pub returns : goal.returns
returns c = grants_are_of_the_chain
