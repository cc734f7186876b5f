use Rattle.holder_core.proofs.Lawfuls.{receive_keeps}
use Rattle.holder_core.proofs.laws.receiving_keeps_the_laws.Goals as goal

pub returns : goal.returns
returns c = receive_keeps
