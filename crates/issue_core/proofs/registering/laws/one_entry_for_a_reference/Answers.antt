use Rattle.issue_core.specs.Registering.Desk.{register, unsigned}
use Rattle.ledger.proofs.DeskLaws.{one_entry}
use Rattle.issue_core.proofs.registering.laws.one_entry_for_a_reference.Goals as goal

pub returns : goal.returns
returns c = one_entry register unsigned
