use Rattle.cvc_grammar.proofs.CertAgain as again
use Rattle.cvc_grammar.proofs.laws.one_text.Goals as goal

pub returns-clause-text : goal.returns-clause-text
returns-clause-text c = again.one_text

pub returns-clause-cert : goal.returns-clause-cert
returns-clause-cert c = again.one_cert
