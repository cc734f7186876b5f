use Rattle.desk_core.specs.Serving.{moment}
use Rattle.eac_net.proofs.Deliverings.{deliver_steps}
use Rattle.eac_net.proofs.delivering.deliver.Goals as goal

pub returns-clause-steps : goal.returns-clause-steps
returns-clause-steps g c disks =
    let was = moment g.B.Keeper g.P.SignatureProvider c.args.keeper.now c.args.provider.now in
    let now = moment g.B.Keeper g.P.SignatureProvider c.came-happened.new.keeper c.came-happened.new.provider in
    deliver_steps c.args.setup.now c.args.number c.args.world.now c.conclude.new.world c.unwrap-day.result c.unwrap-day.ensures c.requires.parties
    c.came-happened.result c.conclude.result _ _ c.conclude.ensures disks was now (g.met.B.Keeper.unique c.args.keeper.now) c.came-happened.ensures
