-- What was written is read.
use Rattle.std.proofs.Common.{◌≡◌, ℕ, ◌<◌, ◌≤◌, Bool, true, cond, eqb, List, [], ◌∷◌, ◌++◌, length, slice_index_or, Option, Some, None, Ok, refl, ap, ◌∙◌, arith}
use Rattle.std.specs.Prelude.{IsTrue, IfSome, option_map}
use Rattle.tlv_core.specs.Object.{object, is_tag}
use Rattle.tlv_core.proofs.Objects.{object_again}
use Rattle.holder_reference.specs.Reference.{is_reference, is_holder}
use Rattle.cv_dates.specs.Calendar.{date_of, read_date}
use Rattle.cv_dates.proofs.DateLaws.{each_day_is_read}
use Rattle.chat_rights.specs.declared.Kind.{Kind}
use Rattle.chat_rights.specs.declared.Kind.TheVariants.{Inspection}
use Rattle.chat_rights.specs.declared.Template.{Template}
use Rattle.chat_rights.specs.Kinds.{identifier_of}
use Rattle.chat_rights.specs.Template.{template_text, read_template, template_byte}
use Rattle.chat_rights.proofs.Templates.{template_again}
use Rattle.signature_provider.specs.declared.key.Algorithm.{Algorithm}
use Rattle.signature_provider.specs.declared.key.Key.{Key}
use Rattle.signature_provider.specs.Key.{is_algorithm}
use Rattle.keeper.specs.declared.rows.Part.{Part}
use Rattle.keeper.specs.declared.rows.Part.TheVariants as parts
use Rattle.keeper.specs.declared.rows.Settled.{Settled}
use Rattle.keeper.specs.declared.rows.IssuedPart.{IssuedPart}
use Rattle.keeper.specs.declared.rows.OwnPart.{OwnPart}
use Rattle.keeper.specs.declared.rows.CaPart.{CaPart}
use Rattle.keeper.specs.Rows.{table_of, IsStorablePart, IsStorableKey, IsStorableSettled}
use Rattle.keeper_sqlite.specs.StoredRow.{key_text, settled_text, if_settled, stored_text, IsLegalSettled, IsLegalPart}
use Rattle.keeper_sqlite.specs.ReadingOrder.{tagged, content_at, last_content, algorithm_in, key_in, reference_in, holder_in, settled_in, settled_or_none, register_in, issued_in, own_in, ca_in, read_stored}
use Rattle.keeper_sqlite.proofs.Texts.{four, at_end}

-- ---- objects

same_tag : (n : ℕ) → eqb n n ≡ true
same_tag n = grind arith

pub content_again : (tag : ℕ) (bytes c rest : List ℕ) → IsTrue (is_tag tag) → length c < 65536 → bytes ≡ object tag c ++ rest → content_at tag bytes ≡ Some (c, rest)
content_again tag bytes c rest known short e =
    ap (content_at tag) e ∙ ap (tagged tag) (object_again tag c rest known short) ∙ ap (λ b. cond b (Some (c, rest)) None) (same_tag tag)

one_behind : (tag : ℕ) (bytes c : List ℕ) → content_at tag bytes ≡ Some (c, []) → last_content tag bytes ≡ Some c
one_behind tag bytes c e = rw e refl

pub last_again : (tag : ℕ) (bytes c : List ℕ) → IsTrue (is_tag tag) → length c < 65536 → bytes ≡ object tag c → last_content tag bytes ≡ Some c
last_again tag bytes c known short e = one_behind tag bytes c (content_again tag bytes c [] known short (at_end bytes (object tag c) e))

-- ---- keys

algorithm_again : (a : Algorithm) → IsTrue (is_algorithm a) → algorithm_in (a.arc ∷ a.last ∷ []) ≡ Some a
algorithm_again a h = ap (λ b. cond b (Some a) None) h

key_steps : (bytes r1 r2 r3 r4 a d p c : List ℕ) (algorithm : Algorithm) → content_at 0x81 bytes ≡ Some (a, r1) → content_at 0x82 r1 ≡ Some (d, r2) → content_at 0x83 r2 ≡ Some (p, r3) → content_at 0x84 r3 ≡ Some (c, r4)
    → algorithm_in a ≡ Some algorithm → key_in bytes ≡ Some (record { algorithm = algorithm; domain = d; point = p; cofactor = c }, r4)
key_steps bytes r1 r2 r3 r4 a d p c algorithm e1 e2 e3 e4 e5 = rw (e1, e2, e3, e4, e5) refl

below : (n : ℕ) → n ≤ 65535 → n < 65536
below n h = omega (arith, h)

pub key_again : (k : Key) (bytes rest : List ℕ) → IsStorableKey k → bytes ≡ key_text k ++ rest → key_in bytes ≡ Some (k, rest)
key_again k bytes rest s e =
    let a = k.algorithm.arc ∷ k.algorithm.last ∷ [] in
    let r3 = object 0x84 k.cofactor ++ rest in
    let r2 = object 0x83 k.point ++ r3 in
    let r1 = object 0x82 k.domain ++ r2 in
    key_steps bytes r1 r2 r3 rest a k.domain k.point k.cofactor k.algorithm
    (content_again 0x81 bytes a r1 refl (omega arith) (e ∙ four (object 0x81 a) (object 0x82 k.domain) (object 0x83 k.point) (object 0x84 k.cofactor) rest))
    (content_again 0x82 r1 k.domain r2 refl (below (length k.domain) s.domain) refl)
    (content_again 0x83 r2 k.point r3 refl (below (length k.point) s.point) refl)
    (content_again 0x84 r3 k.cofactor rest refl (below (length k.cofactor) s.cofactor) refl)
    (algorithm_again k.algorithm s.algorithm)

-- ---- certificates

template_size : (kind : Kind) (byte : ℕ) → length (object 0x06 (identifier_of kind) ++ object 0x53 (byte ∷ [])) ≡ 14
template_size Inspection byte = refl

template_short : (t : Template) → length (template_text t) < 65536
template_short t = let size : length (template_text t) ≡ 14 = template_size t.kind (template_byte t) in omega (arith, size)

reference_short : (r : List ℕ) → IsTrue (is_reference r) → length r < 65536
reference_short r h = grind arith

holder_short : (h : List ℕ) → IsTrue (is_holder h) → length h < 65536
holder_short r h = grind arith

is_itself : (b : Bool) (bytes : List ℕ) → b ≡ true → cond b (Some bytes) None ≡ Some bytes
is_itself b bytes h = ap (λ c. cond c (Some bytes) None) h

settled_steps : (bytes r1 r2 r3 r4 c i t f u issuer : List ℕ) (template : Template) (from until : ℕ) → content_at 0x86 bytes ≡ Some (c, r1) → content_at 0x87 r1 ≡ Some (i, r2) → content_at 0x88 r2 ≡ Some (t, r3)
    → content_at 0x89 r3 ≡ Some (f, r4) → last_content 0x8a r4 ≡ Some u → reference_in i ≡ Some issuer → read_template t ≡ Ok template → read_date f ≡ Ok from → read_date u ≡ Ok until
    → settled_in bytes ≡ Some (record { certificate = c; issuer = issuer; template = template; from = from; until = until })
settled_steps bytes r1 r2 r3 r4 c i t f u issuer template from until e1 e2 e3 e4 e5 e6 e7 e8 e9 = rw (e1, e2, e3, e4, e5, e6, e7, e8, e9) refl

pub settled_again : (s : Settled) (bytes : List ℕ) → IsStorableSettled s → IsLegalSettled s → bytes ≡ settled_text s → settled_in bytes ≡ Some s
settled_again s bytes short legal e =
    let r4 = object 0x8a (date_of s.until) in
    let r3 = object 0x89 (date_of s.from) ++ r4 in
    let r2 = object 0x88 (template_text s.template) ++ r3 in
    let r1 = object 0x87 s.issuer ++ r2 in
    settled_steps bytes r1 r2 r3 r4 s.certificate s.issuer (template_text s.template) (date_of s.from) (date_of s.until) s.issuer s.template s.from s.until
    (content_again 0x86 bytes s.certificate r1 refl (below (length s.certificate) short) e)
    (content_again 0x87 r1 s.issuer r2 refl (reference_short s.issuer legal.issuer) refl)
    (content_again 0x88 r2 (template_text s.template) r3 refl (template_short s.template) refl)
    (content_again 0x89 r3 (date_of s.from) r4 refl (omega arith) refl)
    (last_again 0x8a r4 (date_of s.until) refl (omega arith) refl)
    (is_itself (is_reference s.issuer) s.issuer legal.issuer)
    (template_again s.template legal.template)
    (each_day_is_read s.from legal.from)
    (each_day_is_read s.until legal.until)

settled_there : (s : Settled) → settled_in (settled_text s) ≡ Some s → settled_or_none (settled_text s) ≡ Some (Some s)
settled_there s e = ap (option_map (λ (x : Settled). Some x)) e

if_settled_again : (o : Option Settled) → IfSome o IsStorableSettled → IfSome o IsLegalSettled → settled_or_none (if_settled o) ≡ Some o
if_settled_again None short legal = refl
if_settled_again (Some s) short legal = settled_there s (settled_again s (settled_text s) short legal refl)

-- ---- parts

pub register_steps : (body request rest day : List ℕ) → content_at 0x80 body ≡ Some (request, rest) → last_content 0x8b rest ≡ Some day → length day ≡ 6 → register_in body ≡ Some (parts.Register request day)
register_steps body request rest day e1 e2 six = rw (e1, e2, six) refl

issued_steps : (body r1 r2 : List ℕ) (p : IssuedPart) → content_at 0x80 body ≡ Some (p.request, r1) → key_in r1 ≡ Some (p.key, r2) → settled_in r2 ≡ Some p.settled → issued_in body ≡ Some (parts.Issued p)
issued_steps body r1 r2 p e1 e2 e3 = rw (e1, e2, e3) refl

own_steps : (body r1 r2 r3 : List ℕ) (p : OwnPart) → content_at 0x80 body ≡ Some (p.request, r1) → key_in r1 ≡ Some (p.key, r2) → content_at 0x85 r2 ≡ Some (p.authority, r3) → holder_in p.authority ≡ Some p.authority
    → settled_or_none r3 ≡ Some p.settled → own_in body ≡ Some (parts.Own p)
own_steps body r1 r2 r3 p e1 e2 e3 e4 e5 = rw (e1, e2, e3, e4, e5) refl

ca_steps : (body r : List ℕ) (p : CaPart) → key_in body ≡ Some (p.key, r) → settled_in r ≡ Some p.settled → ca_in body ≡ Some (parts.Ca p)
ca_steps body r p e1 e2 = rw (e1, e2) refl

pub again : (part : Part) → IsStorablePart part → IsLegalPart part → read_stored (table_of part) (stored_text part) ≡ Some part
again (parts.Register request day) short legal =
    register_steps (stored_text (parts.Register request day)) request (object 0x8b day) day
    (content_again 0x80 (object 0x80 request ++ object 0x8b day) request (object 0x8b day) refl (below (length request) short) refl)
    (last_again 0x8b (object 0x8b day) day refl (omega (arith, legal)) refl)
    legal
again (parts.Issued p) short legal =
    let r1 = key_text p.key ++ settled_text p.settled in
    issued_steps (object 0x80 p.request ++ r1) r1 (settled_text p.settled) p
    (content_again 0x80 (object 0x80 p.request ++ r1) p.request r1 refl (below (length p.request) short.request) refl)
    (key_again p.key r1 (settled_text p.settled) short.key refl)
    (settled_again p.settled (settled_text p.settled) short.settled legal refl)
again (parts.Own p) short legal =
    let r2 = object 0x85 p.authority ++ if_settled p.settled in
    let r1 = key_text p.key ++ r2 in
    own_steps (object 0x80 p.request ++ r1) r1 r2 (if_settled p.settled) p
    (content_again 0x80 (object 0x80 p.request ++ r1) p.request r1 refl (below (length p.request) short.request) refl)
    (key_again p.key r1 r2 short.key refl)
    (content_again 0x85 r2 p.authority (if_settled p.settled) refl (holder_short p.authority legal.authority) refl)
    (is_itself (is_holder p.authority) p.authority legal.authority)
    (if_settled_again p.settled short.settled legal.settled)
again (parts.Ca p) short legal =
    ca_steps (key_text p.key ++ settled_text p.settled) (settled_text p.settled) p
    (key_again p.key (key_text p.key ++ settled_text p.settled) (settled_text p.settled) short.key refl)
    (settled_again p.settled (settled_text p.settled) short.settled legal refl)

-- ---- six bytes of a slice

pub six : (xs : List ℕ) → length xs ≡ 6 → xs ≡ slice_index_or xs 0 0 ∷ slice_index_or xs 1 0 ∷ slice_index_or xs 2 0 ∷ slice_index_or xs 3 0 ∷ slice_index_or xs 4 0 ∷ slice_index_or xs 5 0 ∷ []
six [] h = absurd (omega (arith, h))
six (a ∷ []) h = absurd (omega (arith, h))
six (a ∷ b ∷ []) h = absurd (omega (arith, h))
six (a ∷ b ∷ c ∷ []) h = absurd (omega (arith, h))
six (a ∷ b ∷ c ∷ d ∷ []) h = absurd (omega (arith, h))
six (a ∷ b ∷ c ∷ d ∷ e ∷ []) h = absurd (omega (arith, h))
six (a ∷ b ∷ c ∷ d ∷ e ∷ f ∷ []) h = refl
six (a ∷ b ∷ c ∷ d ∷ e ∷ f ∷ g ∷ more) h = absurd (omega (arith, h))
