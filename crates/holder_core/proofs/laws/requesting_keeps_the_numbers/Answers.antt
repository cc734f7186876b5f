use Rattle.holder_core.proofs.Lawfuls.{request_keeps}
use Rattle.holder_core.proofs.laws.requesting_keeps_the_numbers.Goals as goal

pub returns : goal.returns
returns c = request_keeps
