use Rattle.chip_verify.proofs.OneStep.{one_step, held_is_no_step, refused_is_no_step}
use Rattle.chip_verify.proofs.laws.one_step_each.Goals as goal

pub returns-clause-one : goal.returns-clause-one
returns-clause-one c = one_step

pub returns-clause-held : goal.returns-clause-held
returns-clause-held c = held_is_no_step

pub returns-clause-refused : goal.returns-clause-refused
returns-clause-refused c = refused_is_no_step
