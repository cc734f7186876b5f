use Rattle.cvc_grammar.proofs.RequestViews.{view_of, found_request}
use Rattle.cvc_grammar.proofs.request.view.view_request.Goals as goal

pub returns-clause-found : goal.returns-clause-found
returns-clause-found c =
    view_of c.args.bytes.now c.whole_request.result c.are_bytes.ensures c.whole_request.ensures.exact c.whole_request.ensures.whole c.whole_request.ensures.body
    c.whole_request.ensures.bare

pub returns-clause-only : goal.returns-clause-only
returns-clause-only c d is = found_request c.args.bytes.now c.whole_request.result d is c.whole_request.ensures.exact
