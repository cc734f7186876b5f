use Rattle.headline.proofs.Quoted.{days_never_fall}
use Rattle.headline.proofs.laws.days_never_fall.Goals as goal

pub returns : goal.returns
returns g c = days_never_fall g.D.ChipDisk
