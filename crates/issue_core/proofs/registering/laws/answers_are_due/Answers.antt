use Rattle.issue_core.specs.Registering.Desk.{register, unsigned}
use Rattle.ledger.proofs.DeskLaws.{answers_due}
use Rattle.issue_core.proofs.registering.laws.answers_are_due.Goals as goal

pub returns : goal.returns
returns c = answers_due register unsigned
