use Rattle.eac_net.proofs.GrantsOfGoodChains.{good_chains_of_rows}
use Rattle.eac_net.proofs.laws.good_chains_of_rows.Goals as goal

pub returns : goal.returns
returns c = good_chains_of_rows
