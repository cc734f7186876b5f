use Rattle.issue_core.specs.Issuing.Desk.{issuing, is_signed}
use Rattle.ledger.proofs.DeskLaws.{answers_due}
use Rattle.issue_core.proofs.issuing.laws.issued_answers_are_due.Goals as goal

pub returns : goal.returns
returns c = λ says. answers_due issuing (is_signed says)
