-- The object of a written message or reply has its members.
use Rattle.std.proofs.Common.{◌≡◌, ◌≤◌, ◌<◌, ◌^◌, ◌||◌, ℕ, List, [], ◌∷◌, length, Option, Some, None, Bool, true, false, IsTrue, refl, arith, lit≤}
use Rattle.std.specs.Prelude.{codes, decimal, if◌then◌else◌, IfSome}
use Rattle.std.specs.Str.{IsUtf8}
use Rattle.std.proofs.lemmas.Bool.{leb-true, and_parts, false≢true}
use Rattle.std.specs.Prelude.{nat_le}
use Rattle.serde_json.specs.Find.{get}
use Rattle.std.proofs.lemmas.Str.{IsUtf8-from_ascii}
use Rattle.std.proofs.lemmas.Fmt.{IsAscii-decimal}
use Rattle.json.specs.Tree as tree
use Rattle.json.proofs.Printed.Utf8.{IsUtf8-are_ascii}
use Rattle.json.proofs.Printed.Decimals.{IsNumber-decimal}
use Rattle.serde_json.specs.Data.{string, array, object, Members, member}
use Rattle.serde_json.specs.Read.{of_items, of_json}
use Rattle.serde_json.specs.Written.{outline, items_outline, members_outline}
use Rattle.serde_json.proofs.Numbers.{number_of-decimal}
use Rattle.base64.specs.Engines.{standard}
use Rattle.base64.specs.GeneralPurpose.{encode_of}
use Rattle.base64.proofs.EngineFacts.{IsAscii-encode_of}
use Rattle.eac_base.specs.Bytes.{AreBytes, is_empty}
use Rattle.eac_messages.specs.declared.message.Message.{Message}
use Rattle.eac_messages.specs.declared.message.Message.TheVariants as messages
use Rattle.eac_messages.specs.declared.reply.Reply.{Reply}
use Rattle.eac_messages.specs.declared.code.Code.{Code}
use Rattle.eac_messages.specs.declared.code.Code.TheVariants as kinds
use Rattle.eac_messages.specs.Body.{with_id, IsIdOf}
use Rattle.eac_messages.specs.Base64.{base64_texts, AreAllBytes}
use Rattle.eac_messages.specs.Message.{message_members, message_text, CanBeCalled, IsMessage, HasMembersOf, message_id}
use Rattle.eac_messages.specs.Code.{code_text, carries_certificates}
use Rattle.eac_messages.specs.Laws.{CarriesBytes}
use Rattle.eac_messages.specs.Reply as replies
use Rattle.eac_messages.specs.Reply.{reply_members, reply_text, rule_members, with_certificates, CanBeReplied, IsReply, IsRuleOf, AreCertificatesOf}
use Rattle.eac_messages.proofs.WrittenBodies.{AreItemsOfUtf8, AreMembersOfUtf8, IsWritten, object_again}

-- ---- texts of bytes

encoded_is_utf8 : (bytes : List ℕ) → IsUtf8 (encode_of standard bytes)
encoded_is_utf8 bytes = IsUtf8-from_ascii (encode_of standard bytes) (IsAscii-encode_of standard bytes)

lists_are_utf8 : (lists : List (List ℕ)) → AreItemsOfUtf8 (base64_texts lists)
lists_are_utf8 [] = tt
lists_are_utf8 (bytes ∷ lists) = (encoded_is_utf8 bytes, lists_are_utf8 lists)

lists_have_numbers : (lists : List (List ℕ)) → tree.ItemsHaveNumbers (items_outline (base64_texts lists))
lists_have_numbers [] = tt
lists_have_numbers (bytes ∷ lists) = (tt, lists_have_numbers lists)

lists_are_flat : (lists : List (List ℕ)) → tree.items_depth (items_outline (base64_texts lists)) ≡ 0
lists_are_flat [] = refl
lists_are_flat (bytes ∷ lists) = rw (lists_are_flat lists) refl

lists_same : (lists : List (List ℕ)) → of_items (items_outline (base64_texts lists)) ≡ Some (base64_texts lists)
lists_same [] = refl
lists_same (bytes ∷ lists) = rw (lists_same lists) refl

-- ---- messages

request_written : (id request : List ℕ) → IsUtf8 id → IsWritten (object (message_members (messages.RequestCertificate id request)))
request_written [] request text = record {
  texts = (IsUtf8-are_ascii _ refl, (IsUtf8-are_ascii _ refl, (IsUtf8-are_ascii _ refl, (encoded_is_utf8 request, tt))));
  numbers = (tt, (tt, tt));
  flat = lit≤ tt;
  same = refl;
}
request_written (b ∷ id) request text = record {
  texts = (IsUtf8-are_ascii _ refl, (IsUtf8-are_ascii _ refl, (IsUtf8-are_ascii _ refl, (text, (IsUtf8-are_ascii _ refl, (encoded_is_utf8 request, tt))))));
  numbers = (tt, (tt, (tt, tt)));
  flat = lit≤ tt;
  same = refl;
}

sent_written : (id : List ℕ) (certificates : List (List ℕ)) → IsUtf8 id → IsWritten (object (message_members (messages.SendCertificates id certificates)))
sent_written [] certificates text = record {
  texts = (IsUtf8-are_ascii _ refl, (IsUtf8-are_ascii _ refl, (IsUtf8-are_ascii _ refl, (lists_are_utf8 certificates, tt))));
  numbers = (tt, (lists_have_numbers certificates, tt));
  flat = rw (lists_are_flat certificates) (lit≤ tt);
  same = rw (lists_same certificates) refl;
}
sent_written (b ∷ id) certificates text = record {
  texts = (IsUtf8-are_ascii _ refl, (IsUtf8-are_ascii _ refl, (IsUtf8-are_ascii _ refl, (lists_are_utf8 certificates, (IsUtf8-are_ascii _ refl, (text, tt))))));
  numbers = (tt, (lists_have_numbers certificates, (tt, tt)));
  flat = rw (lists_are_flat certificates) (lit≤ tt);
  same = rw (lists_same certificates) refl;
}

get_written : (id : List ℕ) → IsUtf8 id → IsWritten (object (message_members (messages.GetCaCertificates id)))
get_written [] text = record {
  texts = (IsUtf8-are_ascii _ refl, (IsUtf8-are_ascii _ refl, tt));
  numbers = (tt, tt);
  flat = lit≤ tt;
  same = refl;
}
get_written (b ∷ id) text = record {
  texts = (IsUtf8-are_ascii _ refl, (IsUtf8-are_ascii _ refl, (IsUtf8-are_ascii _ refl, (text, tt))));
  numbers = (tt, (tt, tt));
  flat = lit≤ tt;
  same = refl;
}

message_written : (m : Message) → IsUtf8 (message_id m) → IsWritten (object (message_members m))
message_written (messages.RequestCertificate id request) text = request_written id request text
message_written (messages.SendCertificates id certificates) text = sent_written id certificates text
message_written (messages.GetCaCertificates id) text = get_written id text

request_there : (id request : List ℕ) → length id ≤ 64 → AreBytes request → HasMembersOf (messages.RequestCertificate id request) (object (message_members (messages.RequestCertificate id request)))
request_there [] request size are = record { call_is = refl; id_is = refl; content_is = (refl, are) }
request_there (b ∷ id) request size are = record { call_is = refl; id_is = (refl, size); content_is = (refl, are) }

sent_there : (id : List ℕ) (certificates : List (List ℕ)) → length id ≤ 64 → AreAllBytes certificates
    → HasMembersOf (messages.SendCertificates id certificates) (object (message_members (messages.SendCertificates id certificates)))
sent_there [] certificates size are = record { call_is = refl; id_is = refl; content_is = (refl, are) }
sent_there (b ∷ id) certificates size are = record { call_is = refl; id_is = (refl, size); content_is = (refl, are) }

get_there : (id : List ℕ) → length id ≤ 64 → HasMembersOf (messages.GetCaCertificates id) (object (message_members (messages.GetCaCertificates id)))
get_there [] size = record { call_is = refl; id_is = refl; content_is = tt }
get_there (b ∷ id) size = record { call_is = refl; id_is = (refl, size); content_is = tt }

members_there : (m : Message) → length (message_id m) ≤ 64 → CarriesBytes m → HasMembersOf m (object (message_members m))
members_there (messages.RequestCertificate id request) size are = request_there id request size are
members_there (messages.SendCertificates id certificates) size are = sent_there id certificates size are
members_there (messages.GetCaCertificates id) size are = get_there id size

pub message_is_written : (m : Message) → CanBeCalled m → CarriesBytes m → IsMessage m (message_text m)
message_is_written m can are = (object (message_members m), object_again (message_members m) (message_written m can.text), members_there m can.size are)

-- ---- replies, whatever their code's text is and whether they carry certificates

abbrev members_for : Bool → List ℕ → List ℕ → Option ℕ → List (List ℕ) → Members
members_for carries text id rule list =
    let rest = member (codes "code") (string text) (with_id id (rule_members rule)) in
    if carries then member (codes "certificates") (array (base64_texts list)) rest else rest

abbrev IsSmallRule : Option ℕ → Type 0
IsSmallRule rule = IfSome rule (λ n. n < 2 ^ 64)

rule_is_utf8 : (rule : Option ℕ) → IsSmallRule rule → AreMembersOfUtf8 (rule_members rule)
rule_is_utf8 None small = tt
rule_is_utf8 (Some n) small = (IsUtf8-are_ascii _ refl, (IsUtf8-from_ascii (decimal n) (IsAscii-decimal n small), tt))

id_is_utf8 : (id : List ℕ) (ms : Members) → IsUtf8 id → AreMembersOfUtf8 ms → AreMembersOfUtf8 (with_id id ms)
id_is_utf8 [] ms text are = are
id_is_utf8 (b ∷ id) ms text are = (IsUtf8-are_ascii _ refl, (text, are))

members_are_utf8 : (carries : Bool) (text id : List ℕ) (rule : Option ℕ) (list : List (List ℕ)) → IsUtf8 text → IsUtf8 id → IsSmallRule rule → AreMembersOfUtf8 (members_for carries text id rule list)
members_are_utf8 true text id rule list named called small =
    (IsUtf8-are_ascii _ refl, (lists_are_utf8 list, (IsUtf8-are_ascii _ refl, (named, id_is_utf8 id (rule_members rule) called (rule_is_utf8 rule small)))))
members_are_utf8 false text id rule list named called small = (IsUtf8-are_ascii _ refl, (named, id_is_utf8 id (rule_members rule) called (rule_is_utf8 rule small)))

rule_has_number : (rule : Option ℕ) → IsSmallRule rule → tree.MembersHaveNumbers (members_outline (rule_members rule))
rule_has_number None small = tt
rule_has_number (Some n) small = (IsNumber-decimal n small, tt)

id_has_numbers : (id : List ℕ) (ms : Members) → tree.MembersHaveNumbers (members_outline ms) → tree.MembersHaveNumbers (members_outline (with_id id ms))
id_has_numbers [] ms are = are
id_has_numbers (b ∷ id) ms are = (tt, are)

members_have_numbers : (carries : Bool) (text id : List ℕ) (rule : Option ℕ) (list : List (List ℕ)) → IsSmallRule rule → tree.MembersHaveNumbers (members_outline (members_for carries text id rule list))
members_have_numbers true text id rule list small = (lists_have_numbers list, (tt, id_has_numbers id (rule_members rule) (rule_has_number rule small)))
members_have_numbers false text id rule list small = (tt, id_has_numbers id (rule_members rule) (rule_has_number rule small))

members_are_flat : (carries : Bool) (text id : List ℕ) (rule : Option ℕ) (list : List (List ℕ)) → tree.members_depth (members_outline (members_for carries text id rule list)) ≤ 1
members_are_flat true text [] None list = rw (lists_are_flat list) (lit≤ tt)
members_are_flat true text [] (Some n) list = rw (lists_are_flat list) (lit≤ tt)
members_are_flat true text (b ∷ id) None list = rw (lists_are_flat list) (lit≤ tt)
members_are_flat true text (b ∷ id) (Some n) list = rw (lists_are_flat list) (lit≤ tt)
members_are_flat false text [] None list = lit≤ tt
members_are_flat false text [] (Some n) list = lit≤ tt
members_are_flat false text (b ∷ id) None list = lit≤ tt
members_are_flat false text (b ∷ id) (Some n) list = lit≤ tt

members_same : (carries : Bool) (text id : List ℕ) (rule : Option ℕ) (list : List (List ℕ)) → IsSmallRule rule
    → of_json (outline (object (members_for carries text id rule list))) ≡ Some (object (members_for carries text id rule list))
members_same true text [] None list small = rw (lists_same list) refl
members_same true text [] (Some n) list small = rw (lists_same list, number_of-decimal n small) refl
members_same true text (b ∷ id) None list small = rw (lists_same list) refl
members_same true text (b ∷ id) (Some n) list small = rw (lists_same list, number_of-decimal n small) refl
members_same false text [] None list small = refl
members_same false text [] (Some n) list small = rw (number_of-decimal n small) refl
members_same false text (b ∷ id) None list small = refl
members_same false text (b ∷ id) (Some n) list small = rw (number_of-decimal n small) refl

members_written : (carries : Bool) (text id : List ℕ) (rule : Option ℕ) (list : List (List ℕ)) → IsUtf8 text → IsUtf8 id → IsSmallRule rule → IsWritten (object (members_for carries text id rule list))
members_written carries text id rule list named called small = record {
  texts = members_are_utf8 carries text id rule list named called small;
  numbers = members_have_numbers carries text id rule list small;
  flat = omega (arith, members_are_flat carries text id rule list);
  same = members_same carries text id rule list small;
}

code_is_utf8 : (code : Code) → IsUtf8 (code_text code)
code_is_utf8 kinds.CertAvailable = IsUtf8-are_ascii _ refl
code_is_utf8 kinds.Received = IsUtf8-are_ascii _ refl
code_is_utf8 kinds.Syntax = IsUtf8-are_ascii _ refl
code_is_utf8 kinds.NotAccepted = IsUtf8-are_ascii _ refl
code_is_utf8 kinds.Expired = IsUtf8-are_ascii _ refl
code_is_utf8 kinds.Domain = IsUtf8-are_ascii _ refl
code_is_utf8 kinds.Inner = IsUtf8-are_ascii _ refl
code_is_utf8 kinds.Outer = IsUtf8-are_ascii _ refl
code_is_utf8 kinds.Internal = IsUtf8-are_ascii _ refl

small_rule : (rule : Option ℕ) → IfSome rule (λ n. IsTrue (replies.is_rule n)) → IsSmallRule rule
small_rule None is = tt
small_rule (Some n) is = let up : nat_le n 14 ≡ true = (and_parts (nat_le 1 n) (nat_le n 14) is).1 in let within = leb-true n 14 up in omega arith

-- ---- their members

code_there : (carries : Bool) (text id : List ℕ) (rule : Option ℕ) (list : List (List ℕ)) → get (codes "code") (object (members_for carries text id rule list)) ≡ Some (string text)
code_there true text id rule list = refl
code_there false text id rule list = refl

id_there : (carries : Bool) (text id : List ℕ) (rule : Option ℕ) (list : List (List ℕ)) → length id ≤ 64 → IsIdOf id (get (codes "messageID") (object (members_for carries text id rule list)))
id_there true text [] None list size = refl
id_there true text [] (Some n) list size = refl
id_there true text (b ∷ id) rule list size = (refl, size)
id_there false text [] None list size = refl
id_there false text [] (Some n) list size = refl
id_there false text (b ∷ id) rule list size = (refl, size)

rule_there : (carries : Bool) (text id : List ℕ) (rule : Option ℕ) (list : List (List ℕ)) → IfSome rule (λ n. IsTrue (replies.is_rule n))
    → IsRuleOf rule (get (codes "rule") (object (members_for carries text id rule list)))
rule_there true text [] None list is = refl
rule_there true text [] (Some n) list is = (n, refl, is, refl)
rule_there true text (b ∷ id) None list is = refl
rule_there true text (b ∷ id) (Some n) list is = (n, refl, is, refl)
rule_there false text [] None list is = refl
rule_there false text [] (Some n) list is = (n, refl, is, refl)
rule_there false text (b ∷ id) None list is = refl
rule_there false text (b ∷ id) (Some n) list is = (n, refl, is, refl)

nothing_carried : (list : List (List ℕ)) → IsTrue (is_empty list) → list ≡ []
nothing_carried [] is = refl
nothing_carried (bytes ∷ list) is = absurd (false≢true is)

certificates_there : (carries : Bool) (text id : List ℕ) (rule : Option ℕ) (list : List (List ℕ)) → IsTrue (carries || is_empty list) → AreAllBytes list
    → AreCertificatesOf carries list (object (members_for carries text id rule list))
certificates_there true text id rule list is are = (refl, are)
certificates_there false text id rule list is are = nothing_carried list is

pub reply_is_written : (r : Reply) → CanBeReplied r → AreAllBytes r.certificates → IsReply r (reply_text r)
reply_is_written r can are =
    let carries = carries_certificates r.code in
    let text = code_text r.code in (
      object (reply_members r),
      object_again (reply_members r) (members_written carries text r.id r.rule r.certificates (code_is_utf8 r.code) can.text (small_rule r.rule can.rule_is)),
      record {
        code_is = code_there carries text r.id r.rule r.certificates;
        id_is = id_there carries text r.id r.rule r.certificates can.size;
        rule_is = rule_there carries text r.id r.rule r.certificates can.rule_is;
        certificates_are = certificates_there carries text r.id r.rule r.certificates can.certificates_are are;
      },
    )
