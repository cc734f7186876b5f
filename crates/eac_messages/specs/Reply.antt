-- Replies to calls (after BSI TR-03129; names, members and limits are this project's own).
use Rattle.std.specs.Prelude.{◌≡◌, ℕ, ◌≤◌, List, [], length, Bool, true, false, ◌||◌, IsTrue, Option, Some, None, IfSome, Ok, if◌then◌else◌, codes, IsUtf8}
use Rattle.eac_base.specs.Bytes.{is_within, is_empty}
use Rattle.eac_base.specs.Answers.{◌>>=◌, ◌gives◌}
use Rattle.serde_json.specs.Data.{Data, number, string, array, object, unsigned, Members, no_members, member}
use Rattle.serde_json.specs.Find.{get, as_str, as_number, as_u64}
use Rattle.serde_json.specs.Written.{compact_text}
use Rattle.eac_messages.specs.declared.refusal.Member.TheVariants as names
use Rattle.eac_messages.specs.declared.code.Code.{Code}
use Rattle.eac_messages.specs.declared.reply.Reply.{Reply}
use Rattle.eac_messages.specs.Body.{Step, object_in, required, optional, id_in, IsIdOf, with_id, longest_id}
use Rattle.eac_messages.specs.Base64.{base64_texts, HasCertificates, certificates_in}
use Rattle.eac_messages.specs.Code.{code_text, code_named, carries_certificates}

-- A rule of issuing.
abbrev pub is_rule : ℕ → Bool
is_rule n = is_within 1 14 n

-- ---- the text

abbrev pub with_certificates : Code → List (List ℕ) → Members → Members
with_certificates code list ms = if carries_certificates code then member (codes "certificates") (array (base64_texts list)) ms else ms

abbrev pub rule_members : Option ℕ → Members
rule_members None = no_members
rule_members (Some rule) = member (codes "rule") (number (unsigned rule)) no_members

-- The members in the order of their names.
abbrev pub reply_members : Reply → Members
reply_members r =
    with_certificates r.code r.certificates
    (member (codes "code") (string (code_text r.code)) (with_id r.id (rule_members r.rule)))

-- No space, and escapes where JSON asks for them.
abbrev pub reply_text : Reply → List ℕ
reply_text r = compact_text (object (reply_members r))

-- What can be written: certificates come under one code alone.
pub record CanBeReplied (r : Reply) : Type 0 where
  pub text : IsUtf8 r.id
  pub size : length r.id ≤ longest_id
  pub rule_is : IfSome r.rule (λ n. IsTrue (is_rule n))
  pub certificates_are : IsTrue (carries_certificates r.code || is_empty r.certificates)

-- ---- which bodies a reply has: those whose object has its members. Others in the object are passed over.

abbrev pub IsRuleOf : Option ℕ → Option Data → Type 0
IsRuleOf rule None = rule ≡ None
IsRuleOf rule (Some d) = (n : ℕ) × (d ≡ number (unsigned n)) × IsTrue (is_rule n) × (rule ≡ Some n)

-- Under another code whatever stands in the member `certificates` is passed over.
abbrev pub AreCertificatesOf : Bool → List (List ℕ) → Data → Type 0
AreCertificatesOf true list d = HasCertificates list d
AreCertificatesOf false list d = list ≡ []

pub record HasMembersOf (r : Reply) (d : Data) : Type 0 where
  pub code_is : get (codes "code") d ≡ Some (string (code_text r.code))
  pub id_is : IsIdOf r.id (get (codes "messageID") d)
  pub rule_is : IsRuleOf r.rule (get (codes "rule") d)
  pub certificates_are : AreCertificatesOf (carries_certificates r.code) r.certificates d

abbrev pub IsReply : Reply → List ℕ → Type 0
IsReply r body = (d : Data) × (object_in body ≡ Ok d) × HasMembersOf r d

-- ---- reading: the reply, or the first test that fails

abbrev pub code_of : Data → Option Code
code_of d = as_str d gives code_named

abbrev pub code_in : Data → Step Code
code_in d = required (codes "code") code_of names.Code d

-- An integer from 1 to 14. A number that is written with a point or an exponent is none.
abbrev pub rule_of : Data → Option (Option ℕ)
rule_of d = as_number d gives as_u64 gives λ n. if is_rule n then Some (Some n) else None

abbrev pub rule_in : Data → Step (Option ℕ)
rule_in d = optional (codes "rule") rule_of None names.Rule d

abbrev pub certificates_under : Code → Data → Step (List (List ℕ))
certificates_under code d = if carries_certificates code then certificates_in d else Ok []

abbrev pub reply_in : Data → Step Reply
reply_in d = do
  code ← code_in d
  id ← id_in d
  rule ← rule_in d
  certificates ← certificates_under code d
  Ok (record { id = id; code = code; rule = rule; certificates = certificates })

abbrev pub read_reply : List ℕ → Step Reply
read_reply body = do
  d ← object_in body
  reply_in d
