use Rattle.eac_net.proofs.KeptLaws.{turns_keep_law}
use Rattle.eac_net.proofs.laws.turns_keep_law.Goals as goal

pub returns : goal.returns
returns c = turns_keep_law
