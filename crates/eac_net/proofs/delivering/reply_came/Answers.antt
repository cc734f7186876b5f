use Rattle.std.proofs.Common.{◌≡◌, Ok, inr, sym, ap, ◌∙◌}
use Rattle.eac_messages.specs.Reply.{read_reply}
use Rattle.eac_net.proofs.delivering.reply_came.Goals as goal

pub returns-in-Ok : goal.returns-in-Ok
returns-in-Ok g c = λ setup day packets.
    let read : read_reply c.args.packet.now.body ≡ Ok c.in-Ok.reply = ap read_reply (sym c.as_slice.ensures) ∙ c.in-Ok.ensures.exact in
    inr (c.take_reply-happened.ensures setup day packets c.args.packet.now.body read)
