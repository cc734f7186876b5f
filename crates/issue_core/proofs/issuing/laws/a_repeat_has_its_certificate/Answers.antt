use Rattle.issue_core.specs.Issuing.Desk.{issuing, is_signed}
use Rattle.ledger.proofs.DeskLaws.{kept_again}
use Rattle.issue_core.proofs.issuing.laws.a_repeat_has_its_certificate.Goals as goal

pub returns : goal.returns
returns c = λ says. kept_again issuing (is_signed says)
