use Rattle.std.proofs.Common.{◌++◌, inr, refl, sym, ap, ◌∙◌}
use Rattle.cvc_grammar.specs.Object.{object}
use Rattle.cvc_grammar.specs.Certificate.{is_signature, signature_object}
use Rattle.holder_core.proofs.Signings.{signs_none, signs_one}
use Rattle.holder_core.proofs.Composings.{body_legal, bare_fits, inner_made, signed_body, inner_no_body}
use Rattle.holder_core.proofs.composing.sign_body.Goals as goal

pub write_request_body-requires : goal.write_request_body-requires
write_request_body-requires g c = body_legal c.args.body.now c.requires.legal

pub returns-in_default-clause-signed : goal.returns-in_default-clause-signed
returns-in_default-clause-signed g c = signs_none _ _ refl

pub returns-in_err-inner-clause-signed : goal.returns-in_err-inner-clause-signed
returns-in_err-inner-clause-signed g c = signs_none _ _ c.in_err-inner.ensures.signed

pub finish_request-requires : goal.finish_request-requires
finish_request-requires g c = bare_fits c.args.body.now c.as_slice-2.result.now c.as_slice-3.result.now c.requires.legal (c.as_slice-2.ensures ∙ c.in-Ok.ensures.text) (ap is_signature c.as_slice-3.ensures ∙ c.in_ok-inner.ensures.made.size)

pub returns-in-Ok-finish_request-clause-made : goal.returns-in-Ok-finish_request-clause-made
returns-in-Ok-finish_request-clause-made g c = signed_body (g.P.SignatureProvider.says c.sign.new.provider) _ _ c.args.body.now c.as_slice.result.now c.in_ok-inner.inner c.in-Ok-finish_request.bytes (c.as_slice.ensures ∙ c.in-Ok.ensures.text) c.in_ok-inner.ensures.made.size c.in_ok-inner.ensures.made.good c.in_ok-inner.ensures.signed
    (c.in-Ok-finish_request.ensures ∙ (λ i. object 0x7f21 ((c.as_slice-2.ensures ∙ sym c.as_slice.ensures) i ++ signature_object (c.as_slice-3.ensures i))))

pub returns-in-Ok-finish_request-clause-signed : goal.returns-in-Ok-finish_request-clause-signed
returns-in-Ok-finish_request-clause-signed g c = signs_one _ _ _ (inner_no_body c.args.body.now c.as_slice.result.now c.requires.legal (c.as_slice.ensures ∙ c.in-Ok.ensures.text)) c.in_ok-inner.ensures.signed

pub returns-clause-broken : goal.returns-clause-broken
returns-clause-broken g c = inr (inner_made (g.P.SignatureProvider.says c.sign.new.provider) _ _ c.args.body.now c.as_slice.result.now c.in_ok-inner.inner (c.as_slice.ensures ∙ c.in-Ok.ensures.text) c.in_ok-inner.ensures.made.good c.in_ok-inner.ensures.signed)

pub returns-clause-signed : goal.returns-clause-signed
returns-clause-signed g c = signs_one _ _ _ (inner_no_body c.args.body.now c.as_slice.result.now c.requires.legal (c.as_slice.ensures ∙ c.in-Ok.ensures.text)) c.in_ok-inner.ensures.signed
