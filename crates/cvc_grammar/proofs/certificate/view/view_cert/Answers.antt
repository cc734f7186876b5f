use Rattle.cvc_grammar.proofs.Views.{view_of, found_cert}
use Rattle.cvc_grammar.proofs.certificate.view.view_cert.Goals as goal

pub returns-clause-found : goal.returns-clause-found
returns-clause-found c = view_of c.args.bytes.now c.whole_cert.result c.are_bytes.ensures c.whole_cert.ensures.exact c.whole_cert.ensures.whole c.whole_cert.ensures.body

pub returns-clause-only : goal.returns-clause-only
returns-clause-only c d is = found_cert c.args.bytes.now c.whole_cert.result d is c.whole_cert.ensures.exact
