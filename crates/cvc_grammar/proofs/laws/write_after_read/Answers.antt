use Rattle.cvc_grammar.proofs.CertStands as stands
use Rattle.cvc_grammar.proofs.laws.write_after_read.Goals as goal

pub returns : goal.returns
returns c = stands.write_after_read
