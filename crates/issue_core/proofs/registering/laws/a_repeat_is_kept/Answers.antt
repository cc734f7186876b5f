use Rattle.issue_core.specs.Registering.Desk.{register, unsigned}
use Rattle.ledger.proofs.DeskLaws.{kept_again}
use Rattle.issue_core.proofs.registering.laws.a_repeat_is_kept.Goals as goal

pub returns : goal.returns
returns c = kept_again register unsigned
