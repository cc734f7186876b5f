use Rattle.headline.proofs.Quoted.{no_key_is_ever_missing}
use Rattle.headline.proofs.laws.no_key_is_ever_missing.Goals as goal

pub returns : goal.returns
returns g c = no_key_is_ever_missing g.D.ChipDisk
