use Rattle.eac_net.proofs.Registerings.{ask_steps}
use Rattle.eac_net.proofs.asking.ask.Goals as goal

pub returns-clause-steps : goal.returns-clause-steps
returns-clause-steps g c setup o was =
    ask_steps setup c.args.world.now c.conclude.new.world o (g.B.Keeper.rows c.args.keeper.now) (g.B.Keeper.rows c.register-answer.new.keeper) (g.B.Keeper.faults c.args.keeper.now) (g.B.Keeper.faults c.register-answer.new.keeper)
    c.args.reference.now c.args.bytes.now c.unwrap-day.result c.day_text.result c.register-answer.result c.unwrap-day.ensures c.day_text.ensures.text c.register-answer.ensures.delivery c.register-answer.ensures.answered c.register-answer.ensures.cause
    c.registered.result c.conclude.result c.args.line.now c.conclude.new.line c.conclude.ensures c.registered.ensures was
