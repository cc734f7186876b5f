use Rattle.eac_cli.proofs.Orders.{fault_is_one}
use Rattle.eac_cli.proofs.script_laws.a_fault_is_one.Goals as goal

pub returns : goal.returns
returns c = fault_is_one
