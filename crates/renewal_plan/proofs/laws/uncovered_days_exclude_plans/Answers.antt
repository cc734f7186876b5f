use Rattle.renewal_plan.proofs.OnePlans.{one_answer}
use Rattle.renewal_plan.proofs.laws.uncovered_days_exclude_plans.Goals as goal

pub returns : goal.returns
returns c = one_answer
