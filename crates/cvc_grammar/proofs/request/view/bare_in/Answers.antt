use Rattle.std.proofs.Common.{ap, ◌∙◌}
use Rattle.tlv_core.specs.Object.{object}
use Rattle.cvc_grammar.specs.Views.{part_of}
use Rattle.cvc_grammar.specs.RequestViews.{seen_request_body}
use Rattle.cvc_grammar.proofs.RequestStands.{body_stands}
use Rattle.cvc_grammar.proofs.request.view.bare_in.Goals as goal

pub returns-in-Ok-clause-body : goal.returns-in-Ok-clause-body
returns-in-Ok-clause-body c =
    c.in_ok-content.ensures.whole
    ∙ ap (object 0x7f4e) (body_stands (part_of c.in_ok-content.content) (seen_request_body c.in-Ok.fields) c.are_bytes.ensures c.in-Ok.ensures)
