use Rattle.renewal_plan.proofs.NeedReading.{first_is_named}
use Rattle.renewal_plan.proofs.need_laws.the_first_line_is_named.Goals as goal

pub returns : goal.returns
returns c = first_is_named
