use Rattle.holder_core.proofs.Lawfuls.{request_exact}
use Rattle.holder_core.proofs.laws.requests_are_exact.Goals as goal

pub returns : goal.returns
returns c = request_exact
