use Rattle.eac_cli.proofs.SetupScripts.{setups_are_scripts}
use Rattle.eac_cli.proofs.script_laws.setups_are_scripts.Goals as goal

pub returns : goal.returns
returns c = setups_are_scripts
