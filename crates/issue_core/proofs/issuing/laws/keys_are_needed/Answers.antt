use Rattle.issue_core.proofs.IssuingDesk.Stories.{keys_are_needed}
use Rattle.issue_core.proofs.issuing.laws.keys_are_needed.Goals as goal

pub returns : goal.returns
returns c = keys_are_needed
