-- The three calls between parties (after BSI TR-03129; names, members and limits are this project's own).
use Rattle.std.specs.Prelude.{◌≡◌, ℕ, ◌≤◌, List, length, Option, Some, None, Ok, if◌then◌else◌, codes, IsUtf8}
use Rattle.std.specs.Str.{bytes_eq}
use Rattle.eac_base.specs.Bytes.{AreBytes}
use Rattle.eac_base.specs.Answers.{◌>>=◌, ◌gives◌}
use Rattle.serde_json.specs.Data.{Data, string, array, object, Members, no_members, member}
use Rattle.serde_json.specs.Find.{get, as_str}
use Rattle.serde_json.specs.Written.{compact_text}
use Rattle.eac_messages.specs.declared.refusal.Member.TheVariants as names
use Rattle.eac_messages.specs.declared.message.Call.{Call}
use Rattle.eac_messages.specs.declared.message.Call.TheVariants as calls
use Rattle.eac_messages.specs.declared.message.Message.{Message}
use Rattle.eac_messages.specs.declared.message.Message.TheVariants as messages
use Rattle.eac_messages.specs.Body.{Step, object_in, required, id_in, IsIdOf, with_id, longest_id}
use Rattle.eac_messages.specs.Base64.{base64_text, base64_texts, HasCertificates, bytes_of, certificates_in}

-- ---- the text

abbrev pub call_name : Call → List ℕ
call_name calls.RequestCertificate = codes "RequestCertificate"
call_name calls.SendCertificates = codes "SendCertificates"
call_name calls.GetCaCertificates = codes "GetCACertificates"

-- The members in the order of their names.
abbrev pub message_members : Message → Members
message_members (messages.RequestCertificate id request) =
    member (codes "call") (string (call_name calls.RequestCertificate))
    (with_id id (member (codes "request") (base64_text request) no_members))
message_members (messages.SendCertificates id certificates) =
    member (codes "call") (string (call_name calls.SendCertificates))
    (member (codes "certificates") (array (base64_texts certificates)) (with_id id no_members))
message_members (messages.GetCaCertificates id) =
    member (codes "call") (string (call_name calls.GetCaCertificates)) (with_id id no_members)

-- No space, and escapes where JSON asks for them.
abbrev pub message_text : Message → List ℕ
message_text m = compact_text (object (message_members m))

abbrev pub message_id : Message → List ℕ
message_id (messages.RequestCertificate id request) = id
message_id (messages.SendCertificates id certificates) = id
message_id (messages.GetCaCertificates id) = id

abbrev pub message_call : Message → Call
message_call (messages.RequestCertificate id request) = calls.RequestCertificate
message_call (messages.SendCertificates id certificates) = calls.SendCertificates
message_call (messages.GetCaCertificates id) = calls.GetCaCertificates

-- What can be written.
pub record CanBeCalled (m : Message) : Type 0 where
  pub text : IsUtf8 (message_id m)
  pub size : length (message_id m) ≤ longest_id

-- ---- which bodies a message has: those whose object has its members. Others in the object are passed over.

-- The call's own member.
abbrev pub HasContentOf : Message → Data → Type 0
HasContentOf (messages.RequestCertificate id request) d = (get (codes "request") d ≡ Some (base64_text request)) × AreBytes request
HasContentOf (messages.SendCertificates id certificates) d = HasCertificates certificates d
HasContentOf (messages.GetCaCertificates id) d = Unit {0}

pub record HasMembersOf (m : Message) (d : Data) : Type 0 where
  pub call_is : get (codes "call") d ≡ Some (string (call_name (message_call m)))
  pub id_is : IsIdOf (message_id m) (get (codes "messageID") d)
  pub content_is : HasContentOf m d

abbrev pub IsMessage : Message → List ℕ → Type 0
IsMessage m body = (d : Data) × (object_in body ≡ Ok d) × HasMembersOf m d

-- ---- reading: the message, or the first test that fails

abbrev pub call_named : List ℕ → Option Call
call_named name = if bytes_eq name (codes "RequestCertificate") then Some calls.RequestCertificate
    else (if bytes_eq name (codes "SendCertificates") then Some calls.SendCertificates
    else (if bytes_eq name (codes "GetCACertificates") then Some calls.GetCaCertificates else None))

abbrev pub call_of : Data → Option Call
call_of d = as_str d gives call_named

abbrev pub call_in : Data → Step Call
call_in d = required (codes "call") call_of names.Call d

abbrev pub request_in : List ℕ → Data → Step Message
request_in id d = do
  text ← required (codes "request") as_str names.Request d
  request ← bytes_of names.Request text
  Ok (messages.RequestCertificate id request)

abbrev pub sent_in : List ℕ → Data → Step Message
sent_in id d = do
  certificates ← certificates_in d
  Ok (messages.SendCertificates id certificates)

abbrev pub called_in : Call → List ℕ → Data → Step Message
called_in calls.RequestCertificate id d = request_in id d
called_in calls.SendCertificates id d = sent_in id d
called_in calls.GetCaCertificates id d = Ok (messages.GetCaCertificates id)

abbrev pub message_in : Data → Step Message
message_in d = do
  call ← call_in d
  id ← id_in d
  called_in call id d

abbrev pub read_message : List ℕ → Step Message
read_message body = do
  d ← object_in body
  message_in d
