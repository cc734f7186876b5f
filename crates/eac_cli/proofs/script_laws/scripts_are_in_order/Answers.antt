use Rattle.eac_cli.proofs.MayRun.{script_in_order}
use Rattle.eac_cli.proofs.script_laws.scripts_are_in_order.Goals as goal

pub returns : goal.returns
returns c = script_in_order
