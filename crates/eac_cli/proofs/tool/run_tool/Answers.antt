use Rattle.eac_cli.proofs.Ends.{show_call}
use Rattle.eac_cli.proofs.PlanEnds.{plan_call}
use Rattle.eac_cli.proofs.tool.run_tool.Goals as goal

pub returns-in-Some-Show-clause-show : goal.returns-in-Some-Show-clause-show
returns-in-Some-Show-clause-show g c words = show_call _ _ c.show_source-status.result _ c.unrun-in-Some-Show.ensures.0 c.show_source-status.ensures.shows c.show_source-status.ensures.shown c.show_source-status.ensures.too_long

pub returns-in-Some-Plan-clause-plan : goal.returns-in-Some-Plan-clause-plan
returns-in-Some-Plan-clause-plan g c words = plan_call _ _ c.plan_source-status.result _ c.unrun-in-Some-Plan.ensures.0 c.plan_source-status.ensures.plans c.plan_source-status.ensures.planned c.plan_source-status.ensures.faulty c.plan_source-status.ensures.too_long
