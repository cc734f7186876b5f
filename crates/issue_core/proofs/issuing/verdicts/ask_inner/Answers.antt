use Rattle.issue_core.proofs.IssuingDesk.Messages.{inner_asked}
use Rattle.issue_core.proofs.issuing.verdicts.ask_inner.Goals as goal

pub returns-in-Ok-clause-verdict : goal.returns-in-Ok-clause-verdict
returns-in-Ok-clause-verdict g c = inner_asked (g.P.SignatureProvider.says c.args.provider.now) c.args.view.now c.requires c.in-Ok.yes c.in-Ok.ensures.answer
