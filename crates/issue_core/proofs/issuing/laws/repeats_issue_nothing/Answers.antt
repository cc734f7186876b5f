use Rattle.issue_core.specs.Issuing.Desk.{issuing, is_signed}
use Rattle.ledger.proofs.DeskLaws.{struck_is_story}
use Rattle.issue_core.proofs.issuing.laws.repeats_issue_nothing.Goals as goal

pub returns : goal.returns
returns c = λ says. struck_is_story issuing (is_signed says)
