-- A value that was read has its members in the body's object.
use Rattle.std.proofs.Common.{◌≡◌, ◌≤◌, ◌||◌, lit≤, ℕ, List, [], ◌∷◌, length, Option, Some, None, Bool, true, false, Result, Ok, Err, IfOk, IsTrue, refl, ap, sym, ◌∙◌, subst, ◌⊎◌, inl, inr}
use Rattle.std.specs.Prelude.{codes, if◌then◌else◌, nat_le, IfSome, IsUtf8}
use Rattle.eac_base.specs.Bytes.{is_empty}
use Rattle.std.specs.Str.{bytes_eq}
use Rattle.std.proofs.lemmas.Slice.Eq.{bytes_eq-Decides}
use Rattle.std.proofs.lemmas.Bool.{leb-true}
use Rattle.eac_base.specs.Answers.{◌>>=◌, some_or, ◌gives◌, Answers}
use Rattle.serde_json.specs.Data.{Data, null, boolean, number, string, array, object, unsigned, negative, float}
use Rattle.serde_json.specs.Find.{get, as_str}
use Rattle.eac_messages.specs.declared.refusal.Member.TheVariants as names
use Rattle.eac_messages.specs.declared.refusal.MessageRefusal.{MessageRefusal}
use Rattle.eac_messages.specs.declared.message.Call.{Call}
use Rattle.eac_messages.specs.declared.message.Call.TheVariants as calls
use Rattle.eac_messages.specs.declared.message.Message.{Message}
use Rattle.eac_messages.specs.declared.message.Message.TheVariants as messages
use Rattle.eac_messages.specs.declared.code.Code.{Code}
use Rattle.eac_messages.specs.declared.reply.Reply.{Reply}
use Rattle.eac_messages.specs.Body.{Step, refused_message, object_in, required, of_kind_or, id_of, id_in, IsIdOf}
use Rattle.eac_messages.specs.Base64.{bytes_of, certificates_in}
use Rattle.eac_messages.specs.Message.{call_name, call_named, call_in, called_in, message_in, read_message, message_call, message_id, HasContentOf, HasMembersOf, IsMessage, CanBeCalled}
use Rattle.eac_messages.specs.Code.{code_text, code_among, code_named, all_codes, carries_certificates}
use Rattle.eac_messages.specs.Reply as replies
use Rattle.eac_messages.specs.Reply.{is_rule, code_of, code_in, rule_of, rule_in, certificates_under, reply_in, read_reply, IsRuleOf, AreCertificatesOf, IsReply, CanBeReplied}

-- ---- steps that passed

pub passed : {A B : Type 0} (r : Step A) (next : A → Step B) (b : B) → (r >>= next) ≡ Ok b → (a : A) × (r ≡ Ok a) × (next a ≡ Ok b)
passed (Ok a) next b is = (a, refl, is)
passed (Err e) next b is = absurd (cc)

made : {A B : Type 0} (r : Step A) (f : A → B) (b : B) → (r >>= λ a. Ok (f a)) ≡ Ok b → (a : A) × (f a ≡ b)
made (Ok a) f b is = (a, cc)
made (Err e) f b is = absurd (cc)

value_is : {A : Type 0} (o : Option A) (e : MessageRefusal) (a : A) → some_or o e ≡ Ok a → o ≡ Some a
value_is None e a is = absurd (cc)
value_is (Some found) e a is = let same : found ≡ a = cc in ap Some same

-- What follows from a text.
text_given : {A : Type 0} (kind : List ℕ → Option A) (o : Option Data) (a : A) → (o gives λ d. as_str d gives kind) ≡ Some a → (s : List ℕ) × (o ≡ Some (string s)) × (kind s ≡ Some a)
text_given kind None a is = absurd (cc)
text_given kind (Some null) a is = absurd (cc)
text_given kind (Some (boolean b)) a is = absurd (cc)
text_given kind (Some (number n)) a is = absurd (cc)
text_given kind (Some (string s)) a is = (s, refl, is)
text_given kind (Some (array ds)) a is = absurd (cc)
text_given kind (Some (object ms)) a is = absurd (cc)

where_true : {A : Type 0} (test : Bool) (here : A) (other : Option A) (a : A) → (if test then Some here else other) ≡ Some a → ((test ≡ true) × (here ≡ a)) ⊎ (other ≡ Some a)
where_true true here other a is = inl (refl, cc)
where_true false here other a is = inr is

-- ---- the identifier

id_text_is : (s id : List ℕ) → (if nat_le (length s) 64 then Some s else None) ≡ Some id → (s ≡ id) × (length s ≤ 64)
id_text_is s id is = elim (where_true (nat_le (length s) 64) s None id is) [
  | inl fits ↦ (fits.1, leb-true (length s) 64 fits.0)
  | inr none ↦ absurd (cc)
]

id_at : (id : List ℕ) (o : Option Data) → of_kind_or o id_of [] ≡ Some id → IsIdOf id o
id_at id None is = cc
id_at id (Some d) is =
    let text = text_given (λ s. if nat_le (length s) 64 then Some s else None) (Some d) id is in
    let there : d ≡ string text.0 = cc text.1 in
    let same = id_text_is text.0 id text.2 in
    (there ∙ ap string same.0, subst (λ s. length s ≤ 64) same.0 same.1)

id_is : (d : Data) (id : List ℕ) → id_in d ≡ Ok id → IsIdOf id (get (codes "messageID") d)
id_is d id is = id_at id (get (codes "messageID") d) (value_is _ _ id is)

-- ---- messages

equal_texts : (s t : List ℕ) → bytes_eq s t ≡ true → s ≡ t
equal_texts s t e = (bytes_eq-Decides s t).0 e

call_named_is : (s : List ℕ) (call : Call) → call_named s ≡ Some call → s ≡ call_name call
call_named_is s call is = elim (where_true (bytes_eq s (codes "RequestCertificate")) calls.RequestCertificate _ call is) [
  | inl first ↦ equal_texts s (codes "RequestCertificate") first.0 ∙ ap call_name first.1
  | inr second ↦ elim (where_true (bytes_eq s (codes "SendCertificates")) calls.SendCertificates _ call second) [
    | inl this ↦ equal_texts s (codes "SendCertificates") this.0 ∙ ap call_name this.1
    | inr third ↦ elim (where_true (bytes_eq s (codes "GetCACertificates")) calls.GetCaCertificates None call third) [
      | inl last ↦ equal_texts s (codes "GetCACertificates") last.0 ∙ ap call_name last.1
      | inr none ↦ absurd (cc)
    ]
  ]
]

call_is : (d : Data) (call : Call) → call_in d ≡ Ok call → get (codes "call") d ≡ Some (string (call_name call))
call_is d call is =
    let text = text_given call_named (get (codes "call") d) call (value_is _ _ call is) in
    text.1 ∙ ap (λ s. Some (string s)) (call_named_is text.0 call text.2)

-- The steps after the name and the identifier keep both.
called_is : (call : Call) (id : List ℕ) (d : Data) (m : Message) → called_in call id d ≡ Ok m → (call ≡ message_call m) × (id ≡ message_id m)
called_is calls.RequestCertificate id d m is =
    let text = passed (required (codes "request") as_str names.Request d) _ m is in
    let same = (made (bytes_of names.Request text.0) (messages.RequestCertificate id) m text.2).1 in
    (ap message_call same, ap message_id same)
called_is calls.SendCertificates id d m is =
    let same = (made (certificates_in d) (messages.SendCertificates id) m is).1 in
    (ap message_call same, ap message_id same)
called_is calls.GetCaCertificates id d m is =
    let same : messages.GetCaCertificates id ≡ m = cc in
    (ap message_call same, ap message_id same)

members_found : (d : Data) (m : Message) → message_in d ≡ Ok m → HasContentOf m d → HasMembersOf m d
members_found d m is content =
    let call = passed (call_in d) _ m is in
    let id = passed (id_in d) _ m call.2 in
    let both = called_is call.0 id.0 d m id.2 in
    record {
      call_is = call_is d call.0 call.1 ∙ ap (λ c. Some (string (call_name c))) both.0;
      id_is = subst (λ i. IsIdOf i (get (codes "messageID") d)) both.1 (id_is d id.0 id.1);
      content_is = content;
    }

-- What comes of a body whose object is known.
pub within_object : {A : Type 0} (body : List ℕ) (d : Data) (next : Data → Step A) (a : A) → object_in body ≡ Ok d → (object_in body >>= next) ≡ Ok a → next d ≡ Ok a
within_object body d next a there is =
    let found = passed (object_in body) next a is in
    let same : found.0 ≡ d = cc (sym found.1 ∙ there) in
    ap next (sym same) ∙ found.2

pub message_found : (body : List ℕ) (r : Result Message MessageRefusal) → Answers (λ m. m) refused_message r (read_message body) → IfOk r (λ m. (d : Data) × (object_in body ≡ Ok d) × HasContentOf m d)
    → IfOk r (λ m. IsMessage m body)
message_found body (Err e) exact content = tt
message_found body (Ok m) exact content = (content.0, content.1, members_found content.0 m (within_object body content.0 message_in m content.1 exact) content.2)

-- ---- what was read can be written

id_fits : (id : List ℕ) (o : Option Data) → IsIdOf id o → length id ≤ 64
id_fits id None is = subst (λ s. length s ≤ 64) (sym is) (lit≤ tt)
id_fits id (Some d) is = is.1

pub message_legal : (body : List ℕ) (r : Result Message MessageRefusal) → IfOk r (λ m. IsMessage m body) → IfOk r (λ m. IsUtf8 (message_id m)) → IfOk r CanBeCalled
message_legal body (Err e) found text = tt
message_legal body (Ok m) found text = record { text = text; size = id_fits (message_id m) (get (codes "messageID") found.0) found.2.id_is }

-- ---- replies

code_among_is : (list : List Code) (s : List ℕ) (code : Code) → code_among list s ≡ Some code → s ≡ code_text code
code_among_is [] s code is = absurd (cc)
code_among_is (first ∷ others) s code is = elim (where_true (bytes_eq s (code_text first)) first (code_among others s) code is) [
  | inl this ↦ equal_texts s (code_text first) this.0 ∙ ap code_text this.1
  | inr later ↦ code_among_is others s code later
]

code_is : (d : Data) (code : Code) → code_in d ≡ Ok code → get (codes "code") d ≡ Some (string (code_text code))
code_is d code is =
    let text = text_given code_named (get (codes "code") d) code (value_is _ _ code is) in
    text.1 ∙ ap (λ s. Some (string s)) (code_among_is all_codes text.0 code text.2)

rule_number_is : (n : ℕ) (rule : Option ℕ) (test : Bool) → is_rule n ≡ test → (if test then Some (Some n) else None) ≡ Some rule → IsRuleOf rule (Some (number (unsigned n)))
rule_number_is n rule true within is = (n, refl, within, cc)
rule_number_is n rule false within is = absurd (cc)

rule_at : (rule : Option ℕ) (o : Option Data) → of_kind_or o rule_of None ≡ Some rule → IsRuleOf rule o
rule_at rule None is = cc
rule_at rule (Some null) is = absurd (cc)
rule_at rule (Some (boolean b)) is = absurd (cc)
rule_at rule (Some (number (unsigned n))) is = rule_number_is n rule (is_rule n) refl is
rule_at rule (Some (number (negative z))) is = absurd (cc)
rule_at rule (Some (number (float x))) is = absurd (cc)
rule_at rule (Some (string s)) is = absurd (cc)
rule_at rule (Some (array ds)) is = absurd (cc)
rule_at rule (Some (object ms)) is = absurd (cc)

rule_found : (d : Data) (rule : Option ℕ) → rule_in d ≡ Ok rule → IsRuleOf rule (get (codes "rule") d)
rule_found d rule is = rule_at rule (get (codes "rule") d) (value_is _ _ rule is)

abbrev reply_with : List ℕ → Code → Option ℕ → List (List ℕ) → Reply
reply_with id code rule list = record { id = id; code = code; rule = rule; certificates = list }

reply_members_found : (d : Data) (r : Reply) → reply_in d ≡ Ok r → AreCertificatesOf (carries_certificates r.code) r.certificates d → replies.HasMembersOf r d
reply_members_found d r is certificates =
    let code = passed (code_in d) _ r is in
    let id = passed (id_in d) _ r code.2 in
    let rule = passed (rule_in d) _ r id.2 in
    let same = (made (certificates_under code.0 d) (reply_with id.0 code.0 rule.0) r rule.2).1 in
    record {
      code_is = code_is d code.0 code.1 ∙ ap (λ s. Some (string (code_text s.code))) same;
      id_is = subst (λ s. IsIdOf s.id (get (codes "messageID") d)) same (id_is d id.0 id.1);
      rule_is = subst (λ s. IsRuleOf s.rule (get (codes "rule") d)) same (rule_found d rule.0 rule.1);
      certificates_are = certificates;
    }

pub reply_found : (body : List ℕ) (r : Result Reply MessageRefusal) → Answers (λ s. s) refused_message r (read_reply body)
    → IfOk r (λ s. (d : Data) × (object_in body ≡ Ok d) × AreCertificatesOf (carries_certificates s.code) s.certificates d) → IfOk r (λ s. IsReply s body)
reply_found body (Err e) exact content = tt
reply_found body (Ok r) exact content = (content.0, content.1, reply_members_found content.0 r (within_object body content.0 reply_in r content.1 exact) content.2)

-- ---- what was read can be written

rule_fits : (rule : Option ℕ) (o : Option Data) → IsRuleOf rule o → IfSome rule (λ n. IsTrue (is_rule n))
rule_fits rule None is = subst (λ s. IfSome s (λ n. IsTrue (is_rule n))) (sym is) tt
rule_fits rule (Some d) is = subst (λ s. IfSome s (λ n. IsTrue (is_rule n))) (sym is.3) is.2

certificates_fit : (carries : Bool) (list : List (List ℕ)) (d : Data) → AreCertificatesOf carries list d → IsTrue (carries || is_empty list)
certificates_fit true list d are = refl
certificates_fit false list d are = subst (λ s. IsTrue (is_empty s)) (sym are) refl

pub reply_legal : (body : List ℕ) (r : Result Reply MessageRefusal) → IfOk r (λ s. IsReply s body) → IfOk r (λ s. IsUtf8 s.id) → IfOk r CanBeReplied
reply_legal body (Err e) found text = tt
reply_legal body (Ok r) found text = record {
  text = text;
  size = id_fits r.id (get (codes "messageID") found.0) found.2.id_is;
  rule_is = rule_fits r.rule (get (codes "rule") found.0) found.2.rule_is;
  certificates_are = certificates_fit (carries_certificates r.code) r.certificates found.0 found.2.certificates_are;
}
