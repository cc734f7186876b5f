use Rattle.issue_core.specs.Issuing.Desk.{issuing, is_signed}
use Rattle.ledger.proofs.DeskLaws.{one_entry}
use Rattle.issue_core.proofs.issuing.laws.one_certificate_for_a_number.Goals as goal

pub returns : goal.returns
returns c = λ says. one_entry issuing (is_signed says)
