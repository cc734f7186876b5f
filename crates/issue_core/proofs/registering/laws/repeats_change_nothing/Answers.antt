use Rattle.issue_core.specs.Registering.Desk.{register, unsigned}
use Rattle.ledger.proofs.DeskLaws.{struck_is_story}
use Rattle.issue_core.proofs.registering.laws.repeats_change_nothing.Goals as goal

pub returns : goal.returns
returns c = struck_is_story register unsigned
