use Rattle.policy_limits.proofs.SetupReading.{first_is_named}
use Rattle.policy_limits.proofs.laws.the_first_line_is_named.Goals as goal

pub returns : goal.returns
returns c = first_is_named
