use Rattle.eac_cli.proofs.Orders.{short}
use Rattle.eac_cli.proofs.script_laws.scripts_are_short.Goals as goal

pub returns : goal.returns
returns c = short
