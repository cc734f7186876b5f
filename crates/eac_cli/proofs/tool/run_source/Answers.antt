use Rattle.eac_cli.proofs.Ends.{run_call}
use Rattle.eac_cli.proofs.tool.run_source.Goals as goal

pub returns-clause-call : goal.returns-clause-call
returns-clause-call g c = run_call g.D.ChipDisk _ _ c.read_and_run.result.status c.read_and_run.result.done c.read_and_run.result.acks.acks c.read_and_run.ensures.claim c.read_and_run.ensures.read c.read_and_run.ensures.write
