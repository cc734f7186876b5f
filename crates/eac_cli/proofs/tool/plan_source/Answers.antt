use Rattle.eac_cli.proofs.PlanEnds.{planned, planned_fault, planned_length}
use Rattle.eac_cli.proofs.tool.plan_source.Goals as goal

pub returns-clause-planned : goal.returns-clause-planned
returns-clause-planned g c = planned _ _ c.read_and_plan.result _ _ _ _ _ _ c.read_and_plan.ensures.plans c.read_and_plan.ensures.read.0 c.read_and_plan.ensures.write.0

pub returns-clause-faulty : goal.returns-clause-faulty
returns-clause-faulty g c = planned_fault _ _ c.read_and_plan.result _ (Unit {0}) _ _ _ _ c.read_and_plan.ensures.plans c.read_and_plan.ensures.read.0

pub returns-clause-too_long : goal.returns-clause-too_long
returns-clause-too_long g c = planned_length _ _ c.read_and_plan.result _ (Unit {0}) _ _ _ _ c.read_and_plan.ensures.plans c.read_and_plan.ensures.read.0
