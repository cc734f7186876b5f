use Rattle.desk_core.proofs.answering.answer_both.Goals as goal

pub returns : goal.returns
returns g c = record {
  listed = c.hand_out_both-listed.result;
  reply = c.reply_to_list.ensures;
  told = c.hand_out_both-listed.ensures.told;
  asked = c.hand_out_both-listed.ensures.asked;
  cause = c.hand_out_both-listed.ensures.cause;
}
