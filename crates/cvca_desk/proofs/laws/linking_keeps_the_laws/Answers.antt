use Rattle.cvca_desk.proofs.Lawfuls.{link_keeps}
use Rattle.cvca_desk.proofs.laws.linking_keeps_the_laws.Goals as goal

pub returns : goal.returns
returns c = link_keeps
