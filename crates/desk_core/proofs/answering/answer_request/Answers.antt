use Rattle.desk_core.proofs.Numbers.{numbered}
use Rattle.desk_core.proofs.answering.answer_request.Goals as goal

pub reply_to_request-requires : goal.reply_to_request-requires
reply_to_request-requires g c = numbered _ _ _ _ c.issue-issued.result c.issue-issued.ensures.answered

pub returns : goal.returns
returns g c = record {
  issued = c.issue-issued.result;
  reply = c.reply_to_request.ensures;
  delivery = c.issue-issued.ensures.delivery;
  signed = c.issue-issued.ensures.signed;
  answered = c.issue-issued.ensures.answered;
  cause = c.issue-issued.ensures.cause;
  called = c.issue-issued.ensures.called;
  provider = c.issue-issued.ensures.provider;
}
