use Rattle.renewal_plan.proofs.OnePlans.{one_plan}
use Rattle.renewal_plan.proofs.laws.there_is_one_plan.Goals as goal

pub returns : goal.returns
returns c = one_plan
