use Rattle.eac_net.proofs.Pushings.{push_steps}
use Rattle.eac_net.proofs.pushing.push.Goals as goal

pub returns-clause-steps : goal.returns-clause-steps
returns-clause-steps g c o =
    push_steps c.args.setup.now c.args.desk c.args.party c.requires.fits c.args.world.now c.conclude.new.world o (g.B.Keeper.rows c.args.keeper.now) (g.B.Keeper.rows c.desk_list-list.new.keeper)
    (g.B.Keeper.faults c.args.keeper.now) (g.B.Keeper.faults c.desk_list-list.new.keeper) c.desk_list-list.result c.pushed-happened.result c.conclude.result c.args.line.now c.conclude.new.line
    c.desk_list-list.ensures.cause c.conclude.ensures c.pushed-happened.ensures c.desk_list-list.ensures.told c.desk_list-list.ensures.asked c.requires.parties
