use Rattle.eac_net.proofs.Trustings.{trust_steps}
use Rattle.eac_net.proofs.acting.trusting.trust.Goals as goal

pub returns-clause-steps : goal.returns-clause-steps
returns-clause-steps g c = λ o. trust_steps c.args.setup.now c.args.party c.args.authority _ _ o (g.B.Keeper.rows c.args.keeper.now) (g.B.Keeper.rows c.trust_founding-came.new.keeper) (g.B.Keeper.faults c.args.keeper.now) (g.B.Keeper.faults c.trust_founding-came.new.keeper)
    c.trust_founding-came.result c.answered.result c.conclude.result _ _ c.trust_founding-came.ensures.cause c.conclude.ensures c.answered.ensures c.trust_founding-came.ensures.told c.trust_founding-came.ensures.asked c.requires.parties
