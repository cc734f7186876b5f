use Rattle.std.proofs.Common.{refl}
use Rattle.holder_core.proofs.Signings.{signs_none}
use Rattle.holder_core.proofs.composing.finish.Goals as goal

pub returns-in-None-clause-signed : goal.returns-in-None-clause-signed
returns-in-None-clause-signed g c = signs_none _ _ refl
