use Rattle.holder_core.proofs.Lawfuls.{trust_keeps}
use Rattle.holder_core.proofs.laws.trusting_keeps_the_laws.Goals as goal

pub returns : goal.returns
returns c = trust_keeps
