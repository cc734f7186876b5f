use Rattle.eac_cli.proofs.Orders.{no_fault}
use Rattle.eac_cli.proofs.script_laws.scripts_have_no_fault.Goals as goal

pub returns : goal.returns
returns c = no_fault
