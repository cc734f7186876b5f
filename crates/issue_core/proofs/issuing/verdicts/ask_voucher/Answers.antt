use Rattle.issue_core.proofs.IssuingDesk.Messages.{outer_asked}
use Rattle.issue_core.proofs.issuing.verdicts.ask_voucher.Goals as goal

pub returns-in-Ok-clause-verdict : goal.returns-in-Ok-clause-verdict
returns-in-Ok-clause-verdict g c = outer_asked (g.P.SignatureProvider.says c.args.provider.now) c.args.view.now c.args.outer.now c.args.voucher.now _ c.in-Ok.yes c.requires c.in-Ok.ensures.answer c.view.ensures
