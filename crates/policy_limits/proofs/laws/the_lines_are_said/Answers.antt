use Rattle.policy_limits.proofs.LinesSaid.{lines_are_said}
use Rattle.policy_limits.proofs.laws.the_lines_are_said.Goals as goal

pub returns : goal.returns
returns c = lines_are_said
