use Rattle.std.proofs.Common.{◌++◌, refl, sym, ap, ◌∙◌}
use Rattle.cvc_grammar.specs.Object.{object}
use Rattle.cvc_grammar.specs.Certificate.{is_signature, signature_object}
use Rattle.holder_core.proofs.Signings.{signs_none, signs_one}
use Rattle.holder_core.proofs.Composings.{outer_size, outer_no_body, outer_finished, outer_broken}
use Rattle.holder_core.proofs.composing.sign_outer.Goals as goal

pub returns-in_default-text_to_sign-clause-signed : goal.returns-in_default-text_to_sign-clause-signed
returns-in_default-text_to_sign-clause-signed g c = signs_none _ _ refl

pub returns-in_err-outer-clause-signed : goal.returns-in_err-outer-clause-signed
returns-in_err-outer-clause-signed g c = signs_none _ _ c.in_err-outer.ensures.signed

pub finish_authenticated-requires : goal.finish_authenticated-requires
finish_authenticated-requires g c = outer_size c.args.bare c.as_slice-2.result.now c.args.row.now.reference c.as_slice-3.result.now c.requires.size c.in-Ok.ensures.legal (c.as_slice-2.ensures ∙ c.in-Ok.ensures.text) (ap is_signature c.as_slice-3.ensures ∙ c.in_ok-outer.ensures.made.size)

pub returns-in-Ok-finish_authenticated-clause-made : goal.returns-in-Ok-finish_authenticated-clause-made
returns-in-Ok-finish_authenticated-clause-made g c = outer_finished (g.P.SignatureProvider.says c.sign.new.provider) (g.P.SignatureProvider.holds c.sign.new.provider) _ _ c.args.bare c.as_slice.result.now c.args.row.now c.in-Own.own c.in-Own.is c.requires.own (c.as_slice.ensures ∙ c.in-Ok.ensures.text) c.in_ok-outer.outer c.in_ok-outer.ensures.made c.in_ok-outer.ensures.signed c.in-Ok-finish_authenticated.bytes c.in-Ok.ensures.legal
    (c.in-Ok-finish_authenticated.ensures ∙ (λ i. object 0x67 ((c.as_slice-2.ensures ∙ sym c.as_slice.ensures) i ++ signature_object (c.as_slice-3.ensures i))))

pub returns-in-Ok-finish_authenticated-clause-signed : goal.returns-in-Ok-finish_authenticated-clause-signed
returns-in-Ok-finish_authenticated-clause-signed g c = signs_one _ _ _ (outer_no_body c.args.bare c.as_slice.result.now c.args.row.now.reference c.requires.text (c.as_slice.ensures ∙ c.in-Ok.ensures.text)) c.in_ok-outer.ensures.signed

pub returns-clause-broken : goal.returns-clause-broken
returns-clause-broken g c = outer_broken (g.P.SignatureProvider.says c.sign.new.provider) (g.P.SignatureProvider.holds c.sign.new.provider) _ _ c.args.bare c.as_slice.result.now c.args.row.now c.in-Own.own c.in-Own.is c.requires.own (c.as_slice.ensures ∙ c.in-Ok.ensures.text) c.in_ok-outer.outer c.in_ok-outer.ensures.made c.in_ok-outer.ensures.signed

pub returns-clause-signed : goal.returns-clause-signed
returns-clause-signed g c = signs_one _ _ _ (outer_no_body c.args.bare c.as_slice.result.now c.args.row.now.reference c.requires.text (c.as_slice.ensures ∙ c.in-Ok.ensures.text)) c.in_ok-outer.ensures.signed
