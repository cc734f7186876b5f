use Rattle.eac_net.proofs.ChipActs.{taken_was_asked}
use Rattle.eac_net.proofs.laws.taken_was_asked.Goals as goal

pub returns : goal.returns
returns c = taken_was_asked
