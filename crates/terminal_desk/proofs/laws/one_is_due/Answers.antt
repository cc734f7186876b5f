use Rattle.terminal_desk.proofs.OneChain as law
use Rattle.terminal_desk.proofs.laws.one_is_due.Goals as goal

pub returns : goal.returns
returns c = law.one_is_due
