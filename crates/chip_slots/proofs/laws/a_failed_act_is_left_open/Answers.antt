use Rattle.chip_slots.proofs.RunsOfActs.{earlier_open}
use Rattle.chip_slots.proofs.laws.a_failed_act_is_left_open.Goals as goal

pub returns : goal.returns
returns c = earlier_open
