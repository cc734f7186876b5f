use Rattle.holder_core.proofs.Lawfuls.{take_ca_keeps}
use Rattle.holder_core.proofs.laws.taking_an_authority_keeps_the_laws.Goals as goal

pub returns : goal.returns
returns c = take_ca_keeps
