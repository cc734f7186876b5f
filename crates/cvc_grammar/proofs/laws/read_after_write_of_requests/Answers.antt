use Rattle.cvc_grammar.proofs.RequestAgain as again
use Rattle.cvc_grammar.proofs.laws.read_after_write_of_requests.Goals as goal

pub returns : goal.returns
returns c = again.read_after_write
