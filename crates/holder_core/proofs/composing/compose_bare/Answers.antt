use Rattle.holder_core.specs.Faults.{NoneMissing}
use Rattle.holder_core.proofs.Signings.{signs_none, stays_then, err_is, on_err, cause_after}
use Rattle.holder_core.proofs.Composings.{bare_made, bare_begun}
use Rattle.holder_core.proofs.composing.compose_bare.Goals as goal

pub returns-in_err-key-clause-signed : goal.returns-in_err-key-clause-signed
returns-in_err-key-clause-signed g c = signs_none _ _ c.in_err-key.ensures.signed

pub returns-in_err-bytes-clause-broken : goal.returns-in_err-bytes-clause-broken
returns-in_err-bytes-clause-broken g c = on_err _ _ (bare_begun (g.P.SignatureProvider.says c.sign_body.new.provider) (g.P.SignatureProvider.holds c.args.provider.now) (g.P.SignatureProvider.holds c.new_key.new.provider) (g.P.SignatureProvider.holds c.sign_body.new.provider) _ _ _ c.args.reference c.args.authority c.args.like.now c.in_ok-key.key c.in_ok-key.ensures.made c.in_ok-key.ensures.signed c.in_err-bytes.ensures.provider.holds_more c.in_err-bytes.ensures.broken)

pub returns-in_err-bytes-clause-cause : goal.returns-in_err-bytes-clause-cause
returns-in_err-bytes-clause-cause g c = cause_after NoneMissing NoneMissing _ _ _ c.in_ok-key.key c.in_err-bytes.field-0.0 _ (err_is _ _ c.from_residual-in_err-bytes.ensures.1) c.in_ok-key.ensures.cause c.in_err-bytes.ensures.cause

pub returns-clause-made : goal.returns-clause-made
returns-clause-made g c = bare_made (g.P.SignatureProvider.says c.sign_body.new.provider) (g.P.SignatureProvider.holds c.args.provider.now) (g.P.SignatureProvider.holds c.new_key.new.provider) (g.P.SignatureProvider.holds c.sign_body.new.provider) _ _ _ c.args.reference c.args.authority c.args.like.now c.in_ok-key.key c.in_ok-key.ensures.made c.in_ok-key.ensures.signed c.in_ok-bytes.ensures.provider.holds_more c.in_ok-bytes.bytes c.in_ok-key.ensures.legal c.stands.ensures c.stands-2.ensures c.in_ok-bytes.ensures.made

pub returns-clause-provider : goal.returns-clause-provider
returns-clause-provider g c = stays_then _ _ _ _ _ _ _ _ _ c.in_ok-key.ensures.provider c.in_ok-bytes.ensures.provider
