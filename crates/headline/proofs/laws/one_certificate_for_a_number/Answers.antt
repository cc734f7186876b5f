use Rattle.headline.proofs.Quoted.{one_certificate_for_a_number}
use Rattle.headline.proofs.laws.one_certificate_for_a_number.Goals as goal

pub returns : goal.returns
returns g c = one_certificate_for_a_number g.D.ChipDisk
