use Rattle.eac_messages.proofs.ReadAgain.{message_is_read, reply_is_read}
use Rattle.std.proofs.Common.{sym, ◌∙◌}
use Rattle.eac_messages.proofs.laws.one_value.Goals as goal

pub returns-clause-message : goal.returns-clause-message
returns-clause-message c m n body one other = let same = sym (message_is_read m body one) ∙ message_is_read n body other in cc

pub returns-clause-reply : goal.returns-clause-reply
returns-clause-reply c r s body one other = let same = sym (reply_is_read r body one) ∙ reply_is_read s body other in cc
