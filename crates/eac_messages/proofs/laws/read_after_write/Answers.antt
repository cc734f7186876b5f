use Rattle.eac_messages.specs.Message.{message_text}
use Rattle.eac_messages.specs.Reply.{reply_text}
use Rattle.eac_messages.proofs.ReadAgain.{message_is_read, reply_is_read}
use Rattle.eac_messages.proofs.WrittenAgain.{message_is_written, reply_is_written}
use Rattle.eac_messages.proofs.laws.read_after_write.Goals as goal

pub returns-clause-message : goal.returns-clause-message
returns-clause-message c m can are = message_is_read m (message_text m) (message_is_written m can are)

pub returns-clause-reply : goal.returns-clause-reply
returns-clause-reply c r can are = reply_is_read r (reply_text r) (reply_is_written r can are)
