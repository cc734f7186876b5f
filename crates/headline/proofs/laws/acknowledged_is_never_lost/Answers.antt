use Rattle.headline.proofs.Quoted.{acknowledged_is_never_lost}
use Rattle.headline.proofs.laws.acknowledged_is_never_lost.Goals as goal

pub returns : goal.returns
returns g c = acknowledged_is_never_lost g.D.ChipDisk
