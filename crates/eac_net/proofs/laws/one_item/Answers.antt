use Rattle.eac_net.proofs.Looping.{one_more}
use Rattle.eac_net.proofs.laws.one_item.Goals as goal

pub returns : goal.returns
returns g c = one_more g.D.ChipDisk
