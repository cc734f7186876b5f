use Rattle.std.proofs.Common.{ap, ◌∙◌}
use Rattle.tlv_core.specs.Object.{object}
use Rattle.cvc_grammar.specs.Views.{part_of, seen_body}
use Rattle.cvc_grammar.proofs.CertStands.{body_stands}
use Rattle.cvc_grammar.proofs.certificate.view.signed_body_in.Goals as goal

pub returns-in-Ok-clause-whole : goal.returns-in-Ok-clause-whole
returns-in-Ok-clause-whole c =
    let b = c.in-Ok.body in
    c.in_ok-body.ensures.whole ∙ ap (object 0x7f4e) (body_stands (part_of c.in_ok-body.body) (seen_body b) c.are_bytes.ensures c.in-Ok.ensures)
