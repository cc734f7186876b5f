use Rattle.eac_base.specs.declared.octets.Octets.{Octets}
use Rattle.holder_core.proofs.Signings.{err_is, cause_after, cause_more, stays_then}
use Rattle.cvca_desk.proofs.Makings.{missed_before, own_made, unmade_again}
use Rattle.cvca_desk.proofs.making.made_certificate.Goals as goal

pub returns-in_err-text-clause-made : goal.returns-in_err-text-clause-made
returns-in_err-text-clause-made g c = unmade_again Octets _ _ (g.P.SignatureProvider.holds c.make_key.new.provider) _ _ (g.P.SignatureProvider.signed c.make_key.new.provider, g.P.SignatureProvider.signed c.certify.new.provider) c.args.due.now c.in_ok-key.key c.own_body-body.result _ _ _ _ _ (err_is _ _ c.from_residual-in_err-text.ensures.1) c.in_ok-key.ensures.made c.in_err-text.ensures.provider.holds_more c.in_ok-key.ensures.signed c.own_body-body.ensures c.in_err-text.ensures.signed c.in_err-text.ensures.cause.failed

pub returns-in_err-text-clause-cause : goal.returns-in_err-text-clause-cause
returns-in_err-text-clause-cause g c = cause_after _ _ _ _ _ c.in_ok-key.key _ _ (err_is _ _ c.from_residual-in_err-text.ensures.1) c.in_ok-key.ensures.cause (cause_more _ _ _ _ _ (missed_before _ _ c.in_ok-key.ensures.provider.holds_more c.args.due.now.by) c.in_err-text.ensures.cause)

pub returns-clause-made : goal.returns-clause-made
returns-clause-made g c = own_made _ _ (g.P.SignatureProvider.holds c.make_key.new.provider) _ _ (g.P.SignatureProvider.signed c.make_key.new.provider, g.P.SignatureProvider.signed c.certify.new.provider) c.args.due.now c.in_ok-key.key c.own_body-body.result c.in_ok-text.text c.in_ok-key.ensures.made c.in_ok-text.ensures.provider.holds_more c.in_ok-key.ensures.signed c.own_body-body.ensures c.in_ok-text.ensures.made c.in_ok-text.ensures.signed

pub returns-clause-provider : goal.returns-clause-provider
returns-clause-provider g c = stays_then _ _ _ _ _ _ _ _ _ c.in_ok-key.ensures.provider c.in_ok-text.ensures.provider
