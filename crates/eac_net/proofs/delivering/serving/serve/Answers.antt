use Rattle.desk_core.specs.Serving.{moment}
use Rattle.eac_net.specs.Arrival.{call_at}
use Rattle.eac_net.specs.Parties.{kind_at}
use Rattle.eac_net.proofs.Servings.{came_served}
use Rattle.eac_net.proofs.delivering.serving.serve.Goals as goal

pub returns : goal.returns
returns g c = came_served c.args.setup.now c.args.day c.args.packets.now
    (moment g.B.Keeper g.P.SignatureProvider c.args.keeper.now c.args.provider.now) (moment g.B.Keeper g.P.SignatureProvider c.answer_call.new.keeper c.answer_call.new.provider)
    c.args.call.now (call_at (kind_at c.args.setup.now c.args.call.now.to) c.args.message.now) c.in_ok-reply.field-0 c.called-happened.result c.in_ok-reply.ensures.answered c.called-happened.ensures
