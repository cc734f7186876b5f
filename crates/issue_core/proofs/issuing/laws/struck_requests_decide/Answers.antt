use Rattle.issue_core.specs.Issuing.Desk.{issuing, is_signed}
use Rattle.ledger.proofs.DeskLaws.{decided_by_struck}
use Rattle.issue_core.proofs.issuing.laws.struck_requests_decide.Goals as goal

pub returns : goal.returns
returns c = λ says other. decided_by_struck issuing (is_signed says) (is_signed other)
