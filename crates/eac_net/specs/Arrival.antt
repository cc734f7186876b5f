-- What a packet that comes asks of its party (after BSI TR-03129; which party serves what is this project's own).
use Rattle.std.specs.Prelude.{ℕ, List, Option, Some, None, Result, Ok, Err, if◌then◌else◌}
use Rattle.eac_messages.specs.Message.{read_message}
use Rattle.eac_messages.specs.Reply.{read_reply}
use Rattle.eac_messages.specs.Code.{carries_certificates}
use Rattle.eac_messages.specs.declared.code.Code.{Code}
use Rattle.eac_messages.specs.declared.message.Message.{Message}
use Rattle.eac_messages.specs.declared.message.Message.TheVariants as messages
use Rattle.eac_messages.specs.declared.reply.Reply.{Reply}
use Rattle.policy_limits.specs.Setup.{SetupValue}
use Rattle.policy_limits.specs.declared.party.PartyKind.{PartyKind}
use Rattle.policy_limits.specs.declared.party.PartyKind.TheVariants as kinds
use Rattle.eac_net.specs.Parties.{kind_at}
use Rattle.eac_net.specs.declared.packet.Packet.{Packet}

pub data Arrival : Type 0 where
  -- no packet has that number
  NotSent : Arrival
  -- a call that is no message
  NoCall : Arrival
  -- a request at an issuing desk
  AsksCertificate : (id request : List ℕ) → Arrival
  -- a question for a desk's list
  AsksList : (id : List ℕ) → Arrival
  -- certificates for a party that takes them
  Brings : (id : List ℕ) → (certificates : List (List ℕ)) → Arrival
  -- a call that the party doesn't serve
  IsDeclined : (id : List ℕ) → Arrival
  -- a reply that is none
  NoReply : Arrival
  -- a reply with certificates, and one without
  BringsBack : (certificates : List (List ℕ)) → Arrival
  Notes : (code : Code) → Arrival

-- ---- which party serves what

abbrev pub call_at : Option PartyKind → Message → Arrival
call_at (Some (kinds.Cvca form rights days)) (messages.RequestCertificate id request) = AsksCertificate id request
call_at (Some (kinds.Cvca form rights days)) (messages.GetCaCertificates id) = AsksList id
call_at (Some (kinds.Cvca form rights days)) (messages.SendCertificates id certificates) = IsDeclined id
call_at (Some kinds.Dv) (messages.RequestCertificate id request) = AsksCertificate id request
call_at (Some kinds.Dv) (messages.GetCaCertificates id) = AsksList id
call_at (Some kinds.Dv) (messages.SendCertificates id certificates) = Brings id certificates
call_at (Some kinds.Terminal) (messages.RequestCertificate id request) = IsDeclined id
call_at (Some kinds.Terminal) (messages.GetCaCertificates id) = IsDeclined id
call_at (Some kinds.Terminal) (messages.SendCertificates id certificates) = Brings id certificates
call_at None (messages.RequestCertificate id request) = IsDeclined id
call_at None (messages.GetCaCertificates id) = IsDeclined id
call_at None (messages.SendCertificates id certificates) = IsDeclined id

-- ---- reading

abbrev pub call_read : {E : Type 0} → Option PartyKind → Result Message E → Arrival
call_read kind (Ok message) = call_at kind message
call_read kind (Err refusal) = NoCall

-- certificates come under one code alone
abbrev pub reply_read : {E : Type 0} → Result Reply E → Arrival
reply_read (Ok reply) = if carries_certificates reply.code then BringsBack reply.certificates else Notes reply.code
reply_read (Err refusal) = NoReply

abbrev pub arrival : SetupValue → Option Packet → Arrival
arrival setup None = NotSent
arrival setup (Some p) =
    if p.reply then reply_read (read_reply p.body) else call_read (kind_at setup p.to) (read_message p.body)
