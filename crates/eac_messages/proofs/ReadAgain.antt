-- A body whose object has the members of a message or of a reply is read as that value.
use Rattle.std.proofs.Common.{◌≡◌, ℕ, zero, suc, lit<, List, [], ◌∷◌, length, map, Option, Some, None, Bool, true, false, Ok, refl, ◌∙◌}
use Rattle.std.specs.Prelude.{codes, if◌then◌else◌}
use Rattle.std.proofs.lemmas.Bool.{le-leb}
use Rattle.eac_base.specs.Bytes.{AreBytes}
use Rattle.eac_base.specs.Answers.{some_or}
use Rattle.serde_json.specs.Data.{Data, string, array}
use Rattle.serde_json.specs.Find.{get}
use Rattle.base64.specs.Engines.{standard}
use Rattle.base64.specs.GeneralPurpose.{IsBytes, encode_of, decode_of}
use Rattle.base64.proofs.EngineFacts.{decode_of-encode_of}
use Rattle.eac_messages.specs.declared.refusal.Member.{Member}
use Rattle.eac_messages.specs.declared.refusal.Member.TheVariants as names
use Rattle.eac_messages.specs.declared.refusal.MessageRefusal.TheVariants as refusals
use Rattle.eac_messages.specs.declared.message.Call.{Call}
use Rattle.eac_messages.specs.declared.message.Call.TheVariants as calls
use Rattle.eac_messages.specs.declared.message.Message.{Message}
use Rattle.eac_messages.specs.declared.message.Message.TheVariants as messages
use Rattle.eac_messages.specs.declared.code.Code.{Code}
use Rattle.eac_messages.specs.declared.code.Code.TheVariants as kinds
use Rattle.eac_messages.specs.declared.reply.Reply.{Reply}
use Rattle.eac_messages.specs.Body.{texts_of, of_kind_or, id_of, id_in, IsIdOf}
use Rattle.eac_messages.specs.Base64.{base64_texts, AreAllBytes, bytes_of, all_bytes_of, certificates_in}
use Rattle.eac_messages.specs.Message.{call_name, call_in, called_in, message_in, read_message, message_call, message_id, HasContentOf, HasMembersOf, IsMessage}
use Rattle.eac_messages.specs.Code.{code_text, code_named, carries_certificates}
use Rattle.eac_messages.specs.Reply as replies
use Rattle.eac_messages.specs.Reply.{rule_of, rule_in, code_in, certificates_under, reply_in, read_reply, IsReply, IsRuleOf, AreCertificatesOf}

-- ---- base64

each_byte : (bytes : List ℕ) → AreBytes bytes → IsBytes bytes
each_byte [] are i = lit< tt
each_byte (b ∷ bytes) are zero = are.0
each_byte (b ∷ bytes) are (suc i) = each_byte bytes are.1 i

decoded : (bytes : List ℕ) → AreBytes bytes → decode_of standard (encode_of standard bytes) ≡ Ok bytes
decoded bytes are = decode_of-encode_of standard bytes refl (each_byte bytes are)

pub text_decoded : (which : Member) (bytes : List ℕ) → AreBytes bytes → bytes_of which (encode_of standard bytes) ≡ Ok bytes
text_decoded which bytes are = rw (decoded bytes are) refl

texts_found : (lists : List (List ℕ)) → texts_of (base64_texts lists) ≡ Some (map (encode_of standard) lists)
texts_found [] = refl
texts_found (bytes ∷ lists) = rw (texts_found lists) refl

texts_decoded : (which : Member) (lists : List (List ℕ)) → AreAllBytes lists → all_bytes_of which (map (encode_of standard) lists) ≡ Ok lists
texts_decoded which [] are = refl
texts_decoded which (bytes ∷ lists) are = rw (text_decoded which bytes are.0, texts_decoded which lists are.1) refl

pub certificates_found : (d : Data) (lists : List (List ℕ)) → get (codes "certificates") d ≡ Some (array (base64_texts lists)) → AreAllBytes lists → certificates_in d ≡ Ok lists
certificates_found d lists there are = rw (there, texts_found lists) (texts_decoded names.Certificates lists are)

-- ---- the identifier

id_at : (id : List ℕ) (o : Option Data) → IsIdOf id o → some_or (of_kind_or o id_of []) (refusals.Member names.MessageId) ≡ Ok id
id_at id None is = rw is refl
id_at id (Some d) is = rw (is.0, le-leb (length id) 64 is.1) refl

pub id_found : (id : List ℕ) (d : Data) → IsIdOf id (get (codes "messageID") d) → id_in d ≡ Ok id
id_found id d is = id_at id (get (codes "messageID") d) is

-- ---- messages

named_call : (call : Call) (d : Data) → get (codes "call") d ≡ Some (string (call_name call)) → call_in d ≡ Ok call
named_call calls.RequestCertificate d is = rw is refl
named_call calls.SendCertificates d is = rw is refl
named_call calls.GetCaCertificates d is = rw is refl

-- The steps after the name and the identifier.
called : (m : Message) (d : Data) → HasMembersOf m d → message_in d ≡ called_in (message_call m) (message_id m) d
called m d has = rw (named_call (message_call m) d has.call_is, id_found (message_id m) d has.id_is) refl

content_read : (m : Message) (d : Data) → HasContentOf m d → called_in (message_call m) (message_id m) d ≡ Ok m
content_read (messages.RequestCertificate id request) d has = rw (has.0, text_decoded names.Request request has.1) refl
content_read (messages.SendCertificates id certificates) d has = rw (certificates_found d certificates has.0 has.1) refl
content_read (messages.GetCaCertificates id) d has = refl

members_read : (m : Message) (d : Data) → HasMembersOf m d → message_in d ≡ Ok m
members_read m d has = called m d has ∙ content_read m d has.content_is

pub message_is_read : (m : Message) (body : List ℕ) → IsMessage m body → read_message body ≡ Ok m
message_is_read m body is = rw is.1 (members_read m is.0 is.2)

-- ---- replies

named_code : (code : Code) → code_named (code_text code) ≡ Some code
named_code kinds.CertAvailable = refl
named_code kinds.Received = refl
named_code kinds.Syntax = refl
named_code kinds.NotAccepted = refl
named_code kinds.Expired = refl
named_code kinds.Domain = refl
named_code kinds.Inner = refl
named_code kinds.Outer = refl
named_code kinds.Internal = refl

code_found : (code : Code) (d : Data) → get (codes "code") d ≡ Some (string (code_text code)) → code_in d ≡ Ok code
code_found code d is = rw (is, named_code code) refl

rule_at : (rule : Option ℕ) (o : Option Data) → IsRuleOf rule o → some_or (of_kind_or o rule_of None) (refusals.Member names.Rule) ≡ Ok rule
rule_at rule None is = rw is refl
rule_at rule (Some d) is = rw (is.1, is.2, is.3) refl

rule_found : (rule : Option ℕ) (d : Data) → IsRuleOf rule (get (codes "rule") d) → rule_in d ≡ Ok rule
rule_found rule d is = rule_at rule (get (codes "rule") d) is

certificates_at : (carries : Bool) (lists : List (List ℕ)) (d : Data) → AreCertificatesOf carries lists d → (if carries then certificates_in d else Ok []) ≡ Ok lists
certificates_at true lists d is = certificates_found d lists is.0 is.1
certificates_at false lists d is = rw is refl

reply_members_read : (r : Reply) (d : Data) → replies.HasMembersOf r d → reply_in d ≡ Ok r
reply_members_read r d has =
    rw (code_found r.code d has.code_is, id_found r.id d has.id_is, rule_found r.rule d has.rule_is, certificates_at (carries_certificates r.code) r.certificates d has.certificates_are) refl

pub reply_is_read : (r : Reply) (body : List ℕ) → IsReply r body → read_reply body ≡ Ok r
reply_is_read r body is = rw is.1 (reply_members_read r is.0 is.2)
