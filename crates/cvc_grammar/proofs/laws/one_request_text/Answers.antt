use Rattle.cvc_grammar.proofs.RequestAgain as again
use Rattle.cvc_grammar.proofs.laws.one_request_text.Goals as goal

pub returns-clause-text : goal.returns-clause-text
returns-clause-text c = again.one_text

pub returns-clause-request : goal.returns-clause-request
returns-clause-request c = again.one_request
