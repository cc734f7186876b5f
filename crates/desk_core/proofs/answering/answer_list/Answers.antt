use Rattle.desk_core.proofs.answering.answer_list.Goals as goal

pub returns : goal.returns
returns g c = record {
  listed = c.hand_out-listed.result;
  reply = c.reply_to_list.ensures;
  told = c.hand_out-listed.ensures.told;
  asked = c.hand_out-listed.ensures.asked;
  cause = c.hand_out-listed.ensures.cause;
}
