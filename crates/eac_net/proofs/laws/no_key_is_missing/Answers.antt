use Rattle.eac_net.proofs.Missing.{no_key_is_missing}
use Rattle.eac_net.proofs.laws.no_key_is_missing.Goals as goal

pub returns : goal.returns
returns c = no_key_is_missing
