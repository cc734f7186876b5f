use Rattle.eac_cli.proofs.Orders.{in_two_parts}
use Rattle.eac_cli.proofs.script_laws.setups_come_first.Goals as goal

pub returns : goal.returns
returns c = in_two_parts
