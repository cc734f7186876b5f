use Rattle.eac_cli.proofs.MayRun.{script_fits}
use Rattle.eac_cli.proofs.script_laws.scripts_fit.Goals as goal

pub returns : goal.returns
returns c = script_fits
