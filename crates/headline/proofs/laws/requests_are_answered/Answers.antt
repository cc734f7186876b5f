use Rattle.headline.proofs.Quoted.{requests_are_answered}
use Rattle.headline.proofs.laws.requests_are_answered.Goals as goal

pub returns : goal.returns
returns g c = requests_are_answered g.D.ChipDisk
