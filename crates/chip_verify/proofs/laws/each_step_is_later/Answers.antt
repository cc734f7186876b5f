use Rattle.chip_verify.proofs.Links.{step_trust}
use Rattle.chip_verify.proofs.LaterTrusts.{step_later}
use Rattle.chip_verify.proofs.laws.each_step_is_later.Goals as goal

pub returns-clause-later : goal.returns-clause-later
returns-clause-later c = step_later

pub returns-clause-trust : goal.returns-clause-trust
returns-clause-trust c = step_trust
