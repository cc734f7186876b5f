use Rattle.holder_core.proofs.Readings.{cert_asked}
use Rattle.holder_core.proofs.taking.ask_signature.Goals as goal

pub returns-clause-verdict : goal.returns-clause-verdict
returns-clause-verdict g c = cert_asked (g.P.SignatureProvider.says c.args.provider.now) c.args.cert.now c.args.issuer.now _ c.verify.result c.requires c.verify.ensures.answer c.view.ensures
