use Rattle.headline.proofs.Quoted.{a_replaced_point_never_returns}
use Rattle.headline.proofs.laws.a_replaced_point_never_returns.Goals as goal

pub returns : goal.returns
returns g c = a_replaced_point_never_returns g.D.ChipDisk
