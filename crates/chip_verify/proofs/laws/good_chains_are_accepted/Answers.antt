use Rattle.chip_verify.proofs.GoodChains.{good_or_accepted}
use Rattle.chip_verify.proofs.laws.good_chains_are_accepted.Goals as goal

pub returns : goal.returns
returns c = good_or_accepted
