use Rattle.headline.proofs.Quoted.{answered_from_its_first_delivery}
use Rattle.headline.proofs.laws.answered_from_its_first_delivery.Goals as goal

pub returns : goal.returns
returns g c = answered_from_its_first_delivery g.D.ChipDisk
