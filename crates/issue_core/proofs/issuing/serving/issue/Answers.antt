use Rattle.keeper.specs.Rows.{UniqueKeys}
use Rattle.issue_core.proofs.IssuingDesk.ListsOwe.{by_lists, told_by_law}
use Rattle.issue_core.proofs.IssuingDesk.Served.{serves_of, signs_of}
use Rattle.issue_core.proofs.issuing.serving.issue.Goals as goal

pub returns-clause-delivery : goal.returns-clause-delivery
returns-clause-delivery g c = told_by_law UniqueKeys _ _ (g.B.Keeper.rows c.args.keeper.now) (g.B.Keeper.rows c.serve.new.keeper) (g.met.B.Keeper.unique c.args.keeper.now) c.serve.ensures.told
    (λ before after unique served readable. serves_of _ _ (g.P.SignatureProvider.signed c.args.provider.now, g.P.SignatureProvider.signed c.serve.new.provider) _ _ _ _ before after
    (served (by_lists (g.P.SignatureProvider.says c.args.provider.now) c.args.setup.now c.args.desk c.args.day c.args.request.now before unique readable)))

pub returns-clause-signed : goal.returns-clause-signed
returns-clause-signed g c = told_by_law UniqueKeys _ _ (g.B.Keeper.rows c.args.keeper.now) (g.B.Keeper.rows c.serve.new.keeper) (g.met.B.Keeper.unique c.args.keeper.now) c.serve.ensures.told
    (λ before after unique served readable. signs_of (g.P.SignatureProvider.says c.serve.new.provider) (g.P.SignatureProvider.holds c.args.provider.now) _ _ _ (g.B.Keeper.faults c.args.keeper.now, g.B.Keeper.faults c.serve.new.keeper) (g.P.SignatureProvider.faults c.args.provider.now, g.P.SignatureProvider.faults c.serve.new.provider) before after
    (served (by_lists (g.P.SignatureProvider.says c.args.provider.now) c.args.setup.now c.args.desk c.args.day c.args.request.now before unique readable)))
