use Rattle.headline.proofs.Quoted.{a_grant_is_the_intersection}
use Rattle.headline.proofs.laws.a_grant_is_the_intersection.Goals as goal

pub returns : goal.returns
returns g c = a_grant_is_the_intersection g.D.ChipDisk
