use Rattle.eac_cli.proofs.Orders.{setup_is_one}
use Rattle.eac_cli.proofs.script_laws.a_setup_is_one.Goals as goal

pub returns : goal.returns
returns c = setup_is_one
