use Rattle.cvc_grammar.proofs.RequestStands as stands
use Rattle.cvc_grammar.proofs.laws.write_after_read_of_requests.Goals as goal

pub returns : goal.returns
returns c = stands.write_after_read
