use Rattle.cvc_grammar.proofs.CertAgain as again
use Rattle.cvc_grammar.proofs.laws.read_after_write.Goals as goal

pub returns : goal.returns
returns c = again.read_after_write
