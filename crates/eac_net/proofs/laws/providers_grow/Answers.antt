use Rattle.eac_net.proofs.TrueVerdicts.{providers_grow}
use Rattle.eac_net.proofs.laws.providers_grow.Goals as goal

pub returns : goal.returns
returns c = providers_grow
