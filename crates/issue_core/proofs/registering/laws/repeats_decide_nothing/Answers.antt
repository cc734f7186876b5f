use Rattle.issue_core.specs.Registering.Desk.{register, unsigned}
use Rattle.ledger.proofs.DeskLaws.{decided_by_struck}
use Rattle.issue_core.proofs.registering.laws.repeats_decide_nothing.Goals as goal

pub returns : goal.returns
returns c = decided_by_struck register unsigned unsigned
