use Rattle.cvc_grammar.specs.Views.{part_of}
use Rattle.cvc_grammar.proofs.RequestViews.{key_legal}
use Rattle.cvc_grammar.proofs.request.view.legal_key_in.Goals as goal

pub returns-clause-legal : goal.returns-clause-legal
returns-clause-legal c = key_legal (part_of c.args.part) c.key_in.result c.are_bytes.ensures c.key_in.ensures.exact
