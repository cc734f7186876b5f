-- No message and no reply has a float.
use Rattle.std.proofs.Common.{◌≡◌, ℕ, List, [], ◌∷◌, Option, Some, None, Bool, true, false, refl}
use Rattle.serde_json.specs.Data.{array, Members, no_members, member}
use Rattle.serde_json.specs.Written.{items_have_float, members_have_float}
use Rattle.std.specs.Prelude.{codes, if◌then◌else◌}
use Rattle.eac_messages.specs.declared.message.Message.{Message}
use Rattle.eac_messages.specs.declared.message.Message.TheVariants as messages
use Rattle.eac_messages.specs.declared.reply.Reply.{Reply}
use Rattle.eac_messages.specs.Body.{with_id}
use Rattle.eac_messages.specs.Base64.{base64_texts}
use Rattle.eac_messages.specs.Message.{message_members}
use Rattle.eac_messages.specs.Code.{carries_certificates}
use Rattle.eac_messages.specs.Reply.{rule_members, reply_members}

texts_have_none : (lists : List (List ℕ)) → items_have_float (base64_texts lists) ≡ false
texts_have_none [] = refl
texts_have_none (bytes ∷ lists) = texts_have_none lists

id_has_none : (id : List ℕ) (ms : Members) → members_have_float ms ≡ false → members_have_float (with_id id ms) ≡ false
id_has_none [] ms none = none
id_has_none (b ∷ id) ms none = none

rule_has_none : (rule : Option ℕ) → members_have_float (rule_members rule) ≡ false
rule_has_none None = refl
rule_has_none (Some rule) = refl

certificates_have_none : (carries : Bool) (lists : List (List ℕ)) (ms : Members) → members_have_float ms ≡ false
    → members_have_float (if carries then member (codes "certificates") (array (base64_texts lists)) ms else ms) ≡ false
certificates_have_none true lists ms none = rw (texts_have_none lists) none
certificates_have_none false lists ms none = none

pub message_has_none : (m : Message) → members_have_float (message_members m) ≡ false
message_has_none (messages.RequestCertificate id request) = id_has_none id _ refl
message_has_none (messages.SendCertificates id certificates) = rw (texts_have_none certificates) (id_has_none id no_members refl)
message_has_none (messages.GetCaCertificates id) = id_has_none id no_members refl

pub reply_has_none : (r : Reply) → members_have_float (reply_members r) ≡ false
reply_has_none r = certificates_have_none (carries_certificates r.code) r.certificates _ (id_has_none r.id (rule_members r.rule) (rule_has_none r.rule))
