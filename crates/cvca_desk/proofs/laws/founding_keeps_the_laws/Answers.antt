use Rattle.cvca_desk.proofs.Lawfuls.{founding_keeps}
use Rattle.cvca_desk.proofs.laws.founding_keeps_the_laws.Goals as goal

pub returns : goal.returns
returns c = founding_keeps
