use Rattle.std.proofs.Common.{refl}
use Rattle.eac_cli.proofs.Ends.{run_claim, fault_claim, run_cause, no_nothing}
use Rattle.eac_cli.proofs.Runs.{script_may_run}
use Rattle.eac_cli.proofs.tool.run_bytes.Goals as goal

pub run_lines-done-requires : goal.run_lines-done-requires
run_lines-done-requires g c = script_may_run c.args.bytes.now _ c.in-Ok.script.setup c.in-Ok.script.events _ c.as_slice.ensures c.in-Ok.ensures.script

pub returns-clause-claim : goal.returns-clause-claim
returns-clause-claim g c left end = run_claim g.D.ChipDisk _ _ left c.args.bytes.now c.run_lines-done.result.done c.run_lines-done.result.acks.acks c.run_lines-done.result.stop c.status_of.result _ c.in-Ok.script.setup c.in-Ok.script.events c.as_slice.result.now c.status_of.ensures refl c.as_slice.ensures (end, c.requires.bytes) c.in-Ok.ensures.script c.run_lines-done.ensures.whole c.run_lines-done.ensures.stopped

pub returns-clause-cause : goal.returns-clause-cause
returns-clause-cause g c = run_cause g.D.ChipDisk _ _ _ _ _ _ c.run_lines-done.result.stop c.status_of.result c.status_of.ensures c.run_lines-done.ensures.whole c.run_lines-done.ensures.stopped

pub returns-clause-nothing : goal.returns-clause-nothing
returns-clause-nothing g c nothing = no_nothing c.run_lines-done.result.stop c.status_of.result _ c.status_of.ensures nothing
