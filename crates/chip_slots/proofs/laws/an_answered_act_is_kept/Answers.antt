use Rattle.chip_slots.proofs.RunsOfActs.{earlier_kept}
use Rattle.chip_slots.proofs.laws.an_answered_act_is_kept.Goals as goal

pub returns : goal.returns
returns c = earlier_kept
