use Rattle.desk_core.proofs.answering.answer_receipt.Goals as goal

pub returns : goal.returns
returns g c = record {
  received = c.receive-received.result;
  reply = c.reply_to_receipt.ensures;
  told = c.receive-received.ensures.received;
  answered = c.receive-received.ensures.answered;
  cause = c.receive-received.ensures.cause;
  says = c.receive-received.ensures.says;
  holds = c.receive-received.ensures.holds;
  signed = c.receive-received.ensures.signed;
}
