use Rattle.issue_core.specs.Registering.Desk.{register, unsigned}
use Rattle.ledger.proofs.DeskLaws.{goes_on}
use Rattle.issue_core.proofs.registering.laws.a_story_goes_on.Goals as goal

pub returns : goal.returns
returns c = goes_on register unsigned
