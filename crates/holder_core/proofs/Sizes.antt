-- What a party makes is in the grammar and within its limits, and so is what its rows keep.
use Rattle.std.proofs.Common.{◌≡◌, ℕ, ◌+◌, ◌≤◌, Bool, true, false, cond, leb, List, [], ◌∷◌, ◌++◌, length, None, refl, ap, ◌∙◌, arith}
use Rattle.std.specs.Prelude.{IsTrue, ◌&&◌, nat_lt, ◌/◌, ◌%◌}
use Rattle.std.proofs.lemmas.List.{length-append}
use Rattle.std.proofs.lemmas.Bool.{leb-true}
use Rattle.eac_base.specs.Bytes.{is_empty, is_within}
use Rattle.tlv_core.specs.Object.{object, tag_bytes, length_bytes}
use Rattle.cv_dates.specs.Calendar.{date_of}
use Rattle.chat_rights.specs.Template.{template_text, template_byte}
use Rattle.chat_rights.specs.Kinds.{identifier_of}
use Rattle.chat_rights.specs.declared.Kind.{Kind}
use Rattle.chat_rights.specs.declared.Kind.TheVariants.{Inspection}
use Rattle.holder_reference.specs.Reference.{is_reference, is_holder, is_sequence, holder_part, sequence_part}
use Rattle.signature_provider.specs.declared.key.Key.{Key}
use Rattle.signature_provider.specs.Key.{is_key, key_fits, key_content, key_object, key_values, algorithm_identifier, is_algorithm, is_elliptic, is_elliptic_key, is_rsa_key, is_rsa_point}
use Rattle.cvc_grammar.specs.declared.certificate.CertBody.{CertBody}
use Rattle.cvc_grammar.specs.declared.certificate.Cert.{Cert}
use Rattle.cvc_grammar.specs.Certificate.{profile_object, body_content, body_text, extensions_text, signature_object, IsLegalBody, IsLegalCert, is_signature, is_key_of_body}
use Rattle.cvc_grammar.proofs.CertAgain.{longer}
use Rattle.keeper.specs.Rows.{IsStorableKey}

pub both : (a b : Bool) → a && b ≡ true → (a ≡ true) × (b ≡ true)
both true b e = (refl, e)
both false b e = absurd (cc)

pub join : (a b : Bool) → a ≡ true → b ≡ true → a && b ≡ true
join a b e f = ap (λ x. x && b) e ∙ f

-- ---- sizes of objects

tag_short : (b : Bool) (x y z : ℕ) → length (cond b (x ∷ []) (y ∷ z ∷ [])) ≤ 2
tag_short true x y z = omega arith
tag_short false x y z = omega arith

length_short : (b d : Bool) (x y z u v w : ℕ) → length (cond b (x ∷ []) (cond d (y ∷ z ∷ []) (u ∷ v ∷ w ∷ []))) ≤ 3
length_short true d x y z u v w = omega arith
length_short false true x y z u v w = omega arith
length_short false false x y z u v w = omega arith

-- an object has at most five bytes more than its content
pub at_most : (tag : ℕ) (c : List ℕ) → length (object tag c) ≤ length c + 5
at_most tag c =
    omega (
      arith,
      length-append (tag_bytes tag ++ length_bytes (length c)) c,
      length-append (tag_bytes tag) (length_bytes (length c)),
      tag_short (nat_lt tag 256) tag (tag / 256) (tag % 256),
      length_short (nat_lt (length c) 128) (nat_lt (length c) 256) (length c) 0x81 (length c) 0x82 (length c / 256) (length c % 256),
    )

-- ---- keys

nothing_in : (xs : List ℕ) → is_empty xs ≡ true → length xs ≡ 0
nothing_in [] e = refl
nothing_in (x ∷ xs) e = absurd (cc)

pub record Short (d p c : List ℕ) (n : ℕ) : Type 0 where
  pub domain : length d ≤ n
  pub point : length p ≤ n
  pub cofactor : length c ≤ n

values_short : (e : Bool) (d o c p : List ℕ) → length p ≤ length o → cond e (is_elliptic_key d p c) (is_rsa_key d p c) ≡ true → Short d p c (length (cond e (d ++ o ++ c) p))
values_short true d o c p le h =
    let sum : length (d ++ o ++ c) ≡ length d + length o + length c = length-append (d ++ o) c ∙ ap (λ n. n + length c) (length-append d o) in
    record { domain = omega (arith, sum); point = omega (arith, sum, le); cofactor = omega (arith, sum) }
values_short false d o c p le h =
    let empty = both (is_empty d) (is_empty c) (both (is_empty d && is_empty c) (is_rsa_point p) h).0 in
    record { domain = omega (arith, nothing_in d empty.0); point = omega arith; cofactor = omega (arith, nothing_in c empty.1) }

-- what a row keeps of a key
pub key_storable : (k : Key) → IsTrue (is_key k && key_fits k) → IsStorableKey k
key_storable k h =
    let key = both (is_key k) (key_fits k) h in
    let split = both (is_algorithm k.algorithm) _ key.0 in
    let short = values_short (is_elliptic k.algorithm) k.domain (object 0x86 k.point) k.cofactor k.point (longer 0x86 k.point) split.1 in
    let size : length (key_object k) ≤ 1024 = leb-true (length (key_object k)) 1024 key.1 in
    let content : length (key_content k) ≤ 1024 = omega (arith, size, longer 0x7f49 (key_content k)) in
    let values : length (key_values k) ≤ 1024 = omega (arith, content, length-append (object 0x06 (algorithm_identifier k.algorithm)) (key_values k)) in
    record {
      algorithm = split.0;
      domain = omega (arith, values, short.domain);
      point = omega (arith, values, short.point);
      cofactor = omega (arith, values, short.cofactor);
    }

-- ---- the certificate

pub reference_short : (r : List ℕ) → IsTrue (is_reference r) → length r ≤ 16
reference_short r h =
    let front = both (is_within 8 16 (length r) && is_holder (holder_part r)) (is_sequence (sequence_part r)) h in
    let within = both (is_within 8 16 (length r)) (is_holder (holder_part r)) front.0 in
    leb-true (length r) 16 (both (leb 8 (length r)) (leb (length r) 16) within.0).1

template_size : (kind : Kind) (byte : ℕ) → length (object 0x06 (identifier_of kind) ++ object 0x53 (byte ∷ [])) ≡ 14
template_size Inspection byte = refl

date_size : (n : ℕ) → length (date_of n) ≡ 6
date_size n = refl

eight : (a b c d e f g h : List ℕ) → length (a ++ b ++ c ++ d ++ e ++ f ++ g ++ h) ≡ length a + length b + length c + length d + length e + length f + length g + length h
eight a b c d e f g h =
    omega (
      arith,
      length-append (a ++ b ++ c ++ d ++ e ++ f ++ g) h,
      length-append (a ++ b ++ c ++ d ++ e ++ f) g,
      length-append (a ++ b ++ c ++ d ++ e) f,
      length-append (a ++ b ++ c ++ d) e,
      length-append (a ++ b ++ c) d,
      length-append (a ++ b) c,
      length-append a b,
    )

-- a body without extensions, by the sizes of its parts
body_short : (b : CertBody) → b.extensions ≡ None → IsTrue (is_key_of_body b) → length b.authority ≤ 16 → length b.holder ≤ 16 → length (body_text b) ≤ 1200
body_short b none key authority holder =
    let fits : length (key_object b.key) ≤ 1024 = leb-true (length (key_object b.key)) 1024 (both (is_key b.key) (key_fits b.key) key).1 in
    let from = date_of b.from in
    let until = date_of b.until in
    omega (
      arith,
      at_most 0x7f4e (body_content b),
      eight profile_object (object 0x42 b.authority) (key_object b.key) (object 0x5f20 b.holder) (object 0x7f4c (template_text b.template)) (object 0x5f25 from) (object 0x5f24 until) (extensions_text b.extensions),
      at_most 0x42 b.authority,
      at_most 0x5f20 b.holder,
      at_most 0x7f4c (template_text b.template),
      at_most 0x5f25 from,
      at_most 0x5f24 until,
      template_size b.template.kind (template_byte b.template),
      date_size b.from,
      date_size b.until,
      ap (λ e. length (extensions_text e)) none,
      authority,
      holder,
      fits,
    )

-- a body that is due may be written
pub body_legal : (b : CertBody) → b.extensions ≡ None → IsTrue (is_key_of_body b) → IsTrue (is_reference b.authority) → IsTrue (is_reference b.holder) → IsLegalBody b
body_legal b none key authority holder = record { key = key; size = omega (arith, body_short b none key (reference_short b.authority authority) (reference_short b.holder holder)) }

-- and so may the certificate that it is in
pub cert_legal : (c : Cert) → c.body.extensions ≡ None → IsTrue (is_key_of_body c.body) → IsTrue (is_reference c.body.authority) → IsTrue (is_reference c.body.holder) → IsTrue (is_signature c.signature) → IsLegalCert c
cert_legal c none key authority holder signature =
    let short : length c.signature ≤ 512 = leb-true (length c.signature) 512 (both (leb 1 (length c.signature)) (leb (length c.signature) 512) signature).1 in
    record {
      key = key;
      signature = signature;
      size = omega (
        arith,
        short,
        body_short c.body none key (reference_short c.body.authority authority) (reference_short c.body.holder holder),
        at_most 0x7f21 (body_text c.body ++ signature_object c.signature),
        length-append (body_text c.body) (signature_object c.signature),
        at_most 0x5f37 c.signature,
      );
    }
