use Rattle.std.proofs.Common.{Some, ap, ◌∙◌}
use Rattle.tlv_core.specs.Object.{object}
use Rattle.cvc_grammar.specs.declared.request.Outer.{Outer}
use Rattle.cvc_grammar.specs.declared.request.Request.{Request}
use Rattle.cvc_grammar.specs.Views.{part_of}
use Rattle.cvc_grammar.specs.RequestViews.{seen_request_body}
use Rattle.cvc_grammar.proofs.RequestStands.{bare_stands}
use Rattle.cvc_grammar.proofs.request.view.authenticated_in.Goals as goal

pub returns-in-Ok-bare_in-clause-bare : goal.returns-in-Ok-bare_in-clause-bare
returns-in-Ok-bare_in-clause-bare c =
    let outer : Outer = record { reference = c.in-Ok.o.0; signature = c.in_ok-signature.signature.now } in
    let inside = c.in-Ok-bare_in.inside in
    let request : Request = record { body = seen_request_body inside.fields; inner = inside.inner.now; outer = Some outer } in
    let content = bare_stands (part_of c.in_ok-content.content) (Some outer) request c.are_bytes.ensures (c.in-Ok-bare_in.ensures.exact (Some outer)) in
    (c.in_ok-content.ensures.whole ∙ ap (object 0x7f21) content, c.in-Ok.ensures.whole)
