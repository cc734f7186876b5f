-- What messages and replies, reading and writing have to do with each other.
use Rattle.std.specs.Prelude.{◌≡◌, List, ℕ, Ok}
use Rattle.eac_base.specs.Bytes.{AreBytes}
use Rattle.eac_messages.specs.declared.message.Message.{Message}
use Rattle.eac_messages.specs.declared.message.Message.TheVariants as messages
use Rattle.eac_messages.specs.declared.reply.Reply.{Reply}
use Rattle.eac_messages.specs.Base64.{AreAllBytes}
use Rattle.eac_messages.specs.Message.{CanBeCalled, IsMessage, message_text, read_message}
use Rattle.eac_messages.specs.Reply.{CanBeReplied, IsReply, reply_text, read_reply}

-- What a message carries are bytes.
abbrev pub CarriesBytes : Message → Type 0
CarriesBytes (messages.RequestCertificate id request) = AreBytes request
CarriesBytes (messages.SendCertificates id certificates) = AreAllBytes certificates
CarriesBytes (messages.GetCaCertificates id) = Unit {0}

-- What was written is read.
abbrev pub MessageAfterWrite : Type 0
MessageAfterWrite = (m : Message) → CanBeCalled m → CarriesBytes m → read_message (message_text m) ≡ Ok m

abbrev pub ReplyAfterWrite : Type 0
ReplyAfterWrite = (r : Reply) → CanBeReplied r → AreAllBytes r.certificates → read_reply (reply_text r) ≡ Ok r

-- A body is of one message, and of one reply.
abbrev pub OneMessage : Type 0
OneMessage = (m n : Message) (body : List ℕ) → IsMessage m body → IsMessage n body → m ≡ n

abbrev pub OneReply : Type 0
OneReply = (r s : Reply) (body : List ℕ) → IsReply r body → IsReply s body → r ≡ s
