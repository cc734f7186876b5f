use Rattle.headline.proofs.Quoted.{the_first_broken_rule}
use Rattle.headline.proofs.laws.the_first_broken_rule.Goals as goal

pub returns : goal.returns
returns g c = the_first_broken_rule g.D.ChipDisk
