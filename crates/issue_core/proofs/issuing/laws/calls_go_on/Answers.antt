use Rattle.issue_core.proofs.IssuingDesk.Stories.{calls_go_on}
use Rattle.issue_core.proofs.issuing.laws.calls_go_on.Goals as goal

pub returns : goal.returns
returns c = calls_go_on
