use Rattle.headline.proofs.Quoted.{good_chains_pass}
use Rattle.headline.proofs.laws.good_chains_are_granted.Goals as goal

pub returns : goal.returns
returns g c = good_chains_pass g.D.ChipDisk
