use Rattle.std.proofs.Common.{refl}
use Rattle.issue_core.proofs.IssuingDesk.Messages.{signed_is, signed_once}
use Rattle.issue_core.proofs.issuing.making.sign_body.Goals as goal

pub returns-in-Ok-clause-made : goal.returns-in-Ok-clause-made
returns-in-Ok-clause-made g c = signed_is (g.P.SignatureProvider.says c.sign.new.self) (g.P.SignatureProvider.holds c.args.provider.now) c.args.signer.now c.args.body.now _ _ c.in-Ok.signature c.in-Ok.ensures.made.size c.in-Ok.ensures.made.good c.in-Ok.ensures.key refl c.requires.spelling

pub returns-in-Ok-clause-signed : goal.returns-in-Ok-clause-signed
returns-in-Ok-clause-signed g c = signed_once (g.P.SignatureProvider.signed c.args.provider.now, g.P.SignatureProvider.signed c.sign.new.self) c.args.signer.now c.args.body.now _ _ c.in-Ok.ensures.made.told refl c.requires.spelling
