use Rattle.eac_net.proofs.Looping.{nothing_yet}
use Rattle.eac_net.proofs.laws.nothing_yet.Goals as goal

pub returns : goal.returns
returns g c = nothing_yet g.D.ChipDisk
