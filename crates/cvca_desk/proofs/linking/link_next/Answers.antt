use Rattle.std.proofs.Common.{refl}
use Rattle.holder_core.proofs.Signings.{err_is}
use Rattle.cvca_desk.proofs.Linkings.{told_new, told_fault}
use Rattle.cvca_desk.proofs.linking.link_next.Goals as goal

pub returns-in_err-added-clause-told : goal.returns-in_err-added-clause-told
returns-in_err-added-clause-told g c = told_fault _ _ _ _ c.args.desk c.args.terms.now c.args.count c.args.plan.signing c.args.plan.days _ _ c.in-Ok.due _ _ _ c.in-Ok.ensures.due refl (err_is _ _ c.from_residual.ensures.1) c.in_err-added.ensures.told

pub returns-clause-told : goal.returns-clause-told
returns-clause-told g c = told_new _ _ _ _ c.args.desk c.args.terms.now c.args.count c.args.plan.signing c.args.plan.days _ _ c.in-Ok.due _ c.in_ok-added.added _ _ c.in-Ok.ensures.due refl refl c.linked_as.ensures c.in_ok-added.ensures.told
