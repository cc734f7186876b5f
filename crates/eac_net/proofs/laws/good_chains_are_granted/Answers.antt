use Rattle.eac_net.proofs.GrantsOfGoodChains.{good_chains_are_granted}
use Rattle.eac_net.proofs.laws.good_chains_are_granted.Goals as goal

pub returns : goal.returns
returns c = good_chains_are_granted
