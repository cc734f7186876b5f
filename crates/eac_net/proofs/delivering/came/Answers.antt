use Rattle.std.proofs.Common.{◌≡◌, Some, sym}
use Rattle.desk_core.specs.Serving.{moment}
use Rattle.eac_net.specs.Packets.{packet_at}
use Rattle.eac_net.proofs.Servings.{reply_found}
use Rattle.eac_net.proofs.delivering.came.Goals as goal

pub returns-then-packet : goal.returns-then-packet
returns-then-packet g c =
    let was = moment g.B.Keeper g.P.SignatureProvider c.args.keeper.now c.args.provider.now in
    let now = moment g.B.Keeper g.P.SignatureProvider c.reply_came.new.keeper c.reply_came.new.provider in
    let found : packet_at c.args.packets.now c.args.number ≡ Some c.in-Some.packet.now = sym c.in-Some.ensures in
    reply_found c.args.setup.now c.args.day c.args.number c.args.packets.now was now c.reply_came.result c.in-Some.packet.now found c.if-packet.true
    (c.reply_came.ensures c.args.setup.now c.args.day c.args.packets.now)
