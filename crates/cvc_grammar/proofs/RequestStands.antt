-- What is read as a request is its text.
use Rattle.std.proofs.Common.{◌≡◌, ℕ, ◌≤◌, true, false, ◌||◌, leb, eqb, List, [], ◌++◌, length, Ok, Option, Some, None, refl, sym, ap, ◌∙◌, append_assoc, arith, inl, inr}
use Rattle.std.specs.Prelude.{IsTrue, IfSome}
use Rattle.std.proofs.lemmas.List.{append-nil}
use Rattle.std.proofs.lemmas.Bool.{leb-true, eqb-true}
use Rattle.eac_base.specs.Bytes.{AreBytes, is_empty}
use Rattle.eac_base.specs.Answers.{◌>>=◌, refused_as}
use Rattle.tlv_core.specs.Object.{object, first_object}
use Rattle.eac_base.proofs.Steps.{chosen, empty_is, bind_ok, unless_ok, as_ok, ok_is}
use Rattle.holder_reference.specs.Reference.{is_reference}
use Rattle.signature_provider.specs.declared.key.Key.{Key}
use Rattle.signature_provider.specs.Key.{key_content, key_object}
use Rattle.cvc_grammar.specs.declared.request.RequestBody.{RequestBody}
use Rattle.cvc_grammar.specs.declared.request.Outer.{Outer}
use Rattle.cvc_grammar.specs.declared.request.Request.{Request}
use Rattle.cvc_grammar.specs.Certificate.{profile_object, extensions_text, signature_object, is_signature}
use Rattle.cvc_grammar.specs.Request.{authority_text, request_body_content, request_body_text, with_outer, request_text, longest_request, is_request_key, IsRequest}
use Rattle.cvc_grammar.specs.ReadingOrder.{Part, Found, found_in, object_in, expected, profile_in, reference_in, key_in, extensions_in, signature_in, signed_in, whole}
use Rattle.cvc_grammar.specs.RequestOrder.{authority_in, request_key_in, request_body_in, request_in, authenticated_in}
use Rattle.cvc_grammar.specs.RequestLaws.{WriteAfterRead}
use Rattle.cvc_grammar.proofs.RequestAgain.{regrouped}
use Rattle.cvc_grammar.proofs.Stood.{Stood, stood, stood_of, stood_same}
use Rattle.cvc_grammar.proofs.FieldsStand.{ReadThere, reference_stands}
use Rattle.cvc_grammar.proofs.CertStands.{profile_there, key_there, extensions_there, signature_there, signed_there}

-- ---- the authority's reference

record AuthorityThere (part : Part) (a : Option (List ℕ)) (rest : Part) : Type 0 where
  text : part.bytes ≡ authority_text a ++ rest.bytes
  legal : IfSome a (λ r. IsTrue (is_reference r))
  bytes : AreBytes rest.bytes

authority_same : (part : Part) (a b : Option (List ℕ)) (p q : Part) → a ≡ b → p ≡ q → AuthorityThere part a p → AuthorityThere part b q
authority_same part a b p q e f h = rw (← e, ← f) h

authority_there : (part : Part) (a : Option (List ℕ)) (rest : Part) → AreBytes part.bytes → authority_in part ≡ Ok (a, rest) → AuthorityThere part a rest
authority_there part a rest b e =
    let o = bind_ok (object_in part) _ (a, rest) e in
    elim (chosen (eqb o.0.tag 0x42) (reference_in 0x42 part >>= λ authority. Ok (Some authority.0, authority.1)) (Ok (None, part)) _ o.2) [
      | inl p ↦
          let r = bind_ok (reference_in 0x42 part) (λ authority. Ok (Some authority.0, authority.1)) (a, rest) p.1 in
          let pair = ok_is (Some r.0.0, r.0.1) (a, rest) r.2 in
          let there = reference_stands 0x42 part r.0.0 r.0.1 b r.1 in
          authority_same part (Some r.0.0) a r.0.1 rest (ap (λ (x : Option (List ℕ) × Part). x.0) pair) (ap (λ (x : Option (List ℕ) × Part). x.1) pair)
          (record { text = there.1.there; legal = there.0; bytes = there.1.bytes })
      | inr q ↦
          let pair = ok_is (None, part) (a, rest) q.1 in
          authority_same part None a part rest (ap (λ (x : Option (List ℕ) × Part). x.0) pair) (ap (λ (x : Option (List ℕ) × Part). x.1) pair) (record { text = refl; legal = tt; bytes = b })
    ]

key_same : (part : Part) (k l : Key) (p q : Part) → k ≡ l → p ≡ q → IsTrue (is_request_key k) × ReadThere 0x7f49 part (key_content k) p → IsTrue (is_request_key l) × ReadThere 0x7f49 part (key_content l) q
key_same part k l p q e f h = rw (← e, ← f) h

request_key_there : (part : Part) (k : Key) (rest : Part) → AreBytes part.bytes → request_key_in part ≡ Ok (k, rest) → IsTrue (is_request_key k) × ReadThere 0x7f49 part (key_content k) rest
request_key_there part k rest b e =
    let v = bind_ok (key_in part) _ (k, rest) e in
    let legal = unless_ok (is_request_key v.0.0) _ _ (k, rest) v.2 in
    let pair = ok_is v.0 (k, rest) legal.1 in
    let there = key_there part v.0.0 v.0.1 b v.1 in
    key_same part v.0.0 k v.0.1 rest (ap (λ (x : Key × Part). x.0) pair) (ap (λ (x : Key × Part). x.1) pair) (legal.0, there.1)

-- ---- the body

text_from : (a b c d e t0 t1 t2 t3 : List ℕ) → t0 ≡ a ++ t1 → t1 ≡ b ++ t2 → t2 ≡ c ++ t3 → t3 ≡ d ++ e → t0 ≡ a ++ b ++ c ++ d ++ e
text_from a b c d e t0 t1 t2 t3 e0 e1 e2 e3 = rw (e0, e1, e2, e3) (sym (regrouped a b c d e))

record BodyThere (part : Part) (b : RequestBody) : Type 0 where
  text : part.bytes ≡ request_body_content b
  authority : IfSome b.authority (λ r. IsTrue (is_reference r))
  holder : IsTrue (is_reference b.holder)
  key : IsTrue (is_request_key b.key)

body_same : (part : Part) (b c : RequestBody) → b ≡ c → BodyThere part b → BodyThere part c
body_same part b c e h = rw (← e) h

body_there : (part : Part) (b : RequestBody) → AreBytes part.bytes → request_body_in part ≡ Ok b → BodyThere part b
body_there part b bytes e =
    let s = bind_ok (profile_in part) _ b e in
    let a = bind_ok (authority_in s.0) _ b s.2 in
    let k = bind_ok (request_key_in a.0.1) _ b a.2 in
    let h = bind_ok (reference_in 0x5f20 k.0.1) _ b k.2 in
    let x = bind_ok (extensions_in h.0.1) _ b h.2 in
    let made : RequestBody = record { authority = a.0.0; key = k.0.0; holder = h.0.0; extensions = x.0 } in
    let s_there = profile_there part s.0 bytes s.1 in
    let a_there = authority_there s.0 a.0.0 a.0.1 s_there.bytes a.1 in
    let k_there = request_key_there a.0.1 k.0.0 k.0.1 a_there.bytes k.1 in
    let h_there = reference_stands 0x5f20 k.0.1 h.0.0 h.0.1 k_there.1.bytes h.1 in
    let x_there = extensions_there h.0.1 x.0 h_there.1.bytes x.1 in
    body_same part made b (ok_is made b x.2) (record {
      text = text_from profile_object (authority_text a.0.0) (key_object k.0.0) (object 0x5f20 h.0.0) (extensions_text x.0) part.bytes s.0.bytes a.0.1.bytes k.0.1.bytes
          s_there.there a_there.text k_there.1.there (h_there.1.there ∙ ap (λ (y : List ℕ). object 0x5f20 h.0.0 ++ y) x_there);
      authority = a_there.legal;
      holder = h_there.0;
      key = k_there.0;
    })

-- ---- the bare request

record BareThere (part : Part) (outer : Option Outer) (r : Request) : Type 0 where
  text : part.bytes ≡ request_body_text r.body ++ signature_object r.inner
  outer_is : r.outer ≡ outer
  body : (at : Part) × BodyThere at r.body
  inner : IsTrue (is_signature r.inner)

bare_same : (part : Part) (outer : Option Outer) (r s : Request) → r ≡ s → BareThere part outer r → BareThere part outer s
bare_same part outer r s e h = rw (← e) h

bare_there : (part : Part) (outer : Option Outer) (r : Request) → AreBytes part.bytes → request_in part outer ≡ Ok r → BareThere part outer r
bare_there part outer r bytes e =
    let g = bind_ok (signed_in part) _ r e in
    let d = bind_ok (request_body_in g.0.0) _ r g.2 in
    let made : Request = record { body = d.0; inner = g.0.1; outer = outer } in
    let signed = signed_there part g.0.0 g.0.1 bytes g.1 in
    let body = body_there g.0.0 d.0 signed.bytes d.1 in
    bare_same part outer made r (ok_is made r d.2) (record {
      text = signed.text ∙ ap (λ (x : List ℕ). object 0x7f4e x ++ signature_object g.0.1) body.text;
      outer_is = refl;
      body = (g.0.0, body);
      inner = signed.legal;
    })

-- What the parts are that were read.
pub body_stands : (part : Part) (b : RequestBody) → AreBytes part.bytes → request_body_in part ≡ Ok b → part.bytes ≡ request_body_content b
body_stands part b bytes e = let there = body_there part b bytes e in there.text

pub bare_stands : (part : Part) (outer : Option Outer) (r : Request) → AreBytes part.bytes → request_in part outer ≡ Ok r → part.bytes ≡ request_body_text r.body ++ signature_object r.inner
bare_stands part outer r bytes e = let there = bare_there part outer r bytes e in there.text

-- ---- the whole request

object_there : (part : Part) (f : Found) → AreBytes part.bytes → object_in part ≡ Ok f → Stood f.tag part f
object_there part f b e =
    let inner = bind_ok (refused_as _ (first_object part.bytes)) _ f e in
    let read = as_ok _ (first_object part.bytes) inner.0 inner.1 in
    let found : found_in part inner.0 ≡ f = ok_is _ _ inner.2 in
    stood_same f.tag part (found_in part inner.0) f found (stood_of f.tag part inner.0 b read (ap (λ (g : Found). g.tag) found))

-- What the whole input is, by whether there is an outer part.
record Whole (bytes : List ℕ) (r : Request) : Type 0 where
  text : bytes ≡ request_text r
  outer_legal : IfSome r.outer (λ o. IsTrue (is_reference o.reference))
  outer_signed : IfSome r.outer (λ o. IsTrue (is_signature o.signature))

text_of : (r : Request) → List ℕ
text_of r = request_body_text r.body ++ signature_object r.inner

some_legal : (P : Outer → Type 0) (x : Option Outer) (o : Outer) → x ≡ Some o → P o → IfSome x P
some_legal P x o e h = rw e h

none_legal : (P : Outer → Type 0) (x : Option Outer) → x ≡ None → IfSome x P
none_legal P x e = rw e tt

bare_whole : (bytes : List ℕ) (f : Found) (r : Request) → Stood f.tag (whole bytes) f → f.tag ≡ 0x7f21 → f.rest.bytes ≡ [] → BareThere f.content None r → Whole bytes r
bare_whole bytes f r s t n b = record {
  text = s.text ∙ ap (λ (x : List ℕ). object f.tag f.content.bytes ++ x) n ∙ append-nil (object f.tag f.content.bytes) ∙ ap (λ (x : ℕ). object x f.content.bytes) t
      ∙ ap (object 0x7f21) b.text ∙ sym (ap (with_outer r) b.outer_is);
  outer_legal = none_legal (λ o. IsTrue (is_reference o.reference)) r.outer b.outer_is;
  outer_signed = none_legal (λ o. IsTrue (is_signature o.signature)) r.outer b.outer_is;
}

outer_text : (part : Part) (f : Found) (reference signature : List ℕ) (p q : Part) → Stood 0x7f21 part f → ReadThere 0x42 f.rest reference p → ReadThere 0x5f37 p signature q → q.bytes ≡ []
    → part.bytes ≡ object 0x7f21 f.content.bytes ++ object 0x42 reference ++ signature_object signature
outer_text part f reference signature p q s r g n =
    s.text ∙ ap (λ (x : List ℕ). object 0x7f21 f.content.bytes ++ x) (r.there ∙ ap (λ (x : List ℕ). object 0x42 reference ++ x) (g.there ∙ ap (λ (x : List ℕ). object 0x5f37 signature ++ x) n ∙ append-nil (object 0x5f37 signature)))
    ∙ sym (append_assoc (object 0x7f21 f.content.bytes) (object 0x42 reference) (signature_object signature))

outer_whole : (bytes : List ℕ) (f : Found) (r : Request) → Stood f.tag (whole bytes) f → f.tag ≡ 0x67 → f.rest.bytes ≡ [] → authenticated_in f.content ≡ Ok r → Whole bytes r × ((at : Part) × (o : Option Outer) × BareThere at o r)
outer_whole bytes f r s t n e =
    let bare = bind_ok (expected 0x7f21 f.content) _ r e in
    let reference = bind_ok (reference_in 0x42 bare.0.rest) _ r bare.2 in
    let signature = bind_ok (signature_in reference.0.1) _ r reference.2 in
    let nothing = unless_ok (is_empty signature.0.1.bytes) _ _ r signature.2 in
    let o : Outer = record { reference = reference.0.0; signature = signature.0.0 } in
    let s1 = stood 0x7f21 f.content bare.0 s.content_bytes bare.1 in
    let r1 = reference_stands 0x42 bare.0.rest reference.0.0 reference.0.1 s1.rest_bytes reference.1 in
    let g1 = signature_there reference.0.1 signature.0.0 signature.0.1 r1.1.bytes signature.1 in
    let b = bare_there bare.0.content (Some o) r s1.content_bytes nothing.1 in
    let inside = outer_text f.content bare.0 reference.0.0 signature.0.0 reference.0.1 signature.0.1 s1 r1.1 g1.1 (empty_is signature.0.1.bytes nothing.0) in (
      record {
        text = s.text ∙ ap (λ (x : List ℕ). object f.tag f.content.bytes ++ x) n ∙ append-nil (object f.tag f.content.bytes) ∙ ap (λ (x : ℕ). object x f.content.bytes) t
            ∙ ap (object 0x67) (inside ∙ ap (λ (x : List ℕ). object 0x7f21 x ++ object 0x42 reference.0.0 ++ signature_object signature.0.0) b.text) ∙ sym (ap (with_outer r) b.outer_is);
        outer_legal = some_legal (λ x. IsTrue (is_reference x.reference)) r.outer o b.outer_is r1.0;
        outer_signed = some_legal (λ x. IsTrue (is_signature x.signature)) r.outer o b.outer_is g1.0;
      },
      (bare.0.content, Some o, b),
    )

size_along : (bytes text : List ℕ) → bytes ≡ text → leb (length bytes) longest_request ≡ true → length text ≤ longest_request
size_along bytes text e h = rw (← e) (leb-true (length bytes) longest_request h)

request_of : (bytes : List ℕ) (r : Request) (part : Part) (o : Option Outer) → leb (length bytes) longest_request ≡ true → Whole bytes r → BareThere part o r → IsRequest r bytes
request_of bytes r part o size w b = record {
  parts = record { body = record { authority = b.body.1.authority; holder = b.body.1.holder }; outer = w.outer_legal };
  limits = record { key = b.body.1.key; inner = b.inner; outer = w.outer_signed; size = size_along bytes (request_text r) w.text size };
  spelling = w.text;
}

other_tag : (t : ℕ) → (eqb t 0x7f21 || eqb t 0x67) ≡ true → eqb t 0x7f21 ≡ false → t ≡ 0x67
other_tag t h e = grind arith

pub write_after_read : WriteAfterRead
write_after_read r bytes b e =
    let size = unless_ok (leb (length bytes) longest_request) _ _ r e in
    let f = bind_ok (object_in (whole bytes)) _ r size.1 in
    let known = unless_ok (eqb f.0.tag 0x7f21 || eqb f.0.tag 0x67) _ _ r f.2 in
    let nothing = unless_ok (is_empty f.0.rest.bytes) _ _ r known.1 in
    let s = object_there (whole bytes) f.0 b f.1 in
    elim (chosen (eqb f.0.tag 0x7f21) (request_in f.0.content None) (authenticated_in f.0.content) _ nothing.1) [
      | inl p ↦
          let bare = bare_there f.0.content None r s.content_bytes p.1 in
          request_of bytes r f.0.content None size.0 (bare_whole bytes f.0 r s (eqb-true f.0.tag 0x7f21 p.0) (empty_is f.0.rest.bytes nothing.0) bare) bare
      | inr q ↦
          let w = outer_whole bytes f.0 r s (other_tag f.0.tag known.0 q.0) (empty_is f.0.rest.bytes nothing.0) q.1 in
          request_of bytes r w.1.0 w.1.1 size.0 w.0 w.1.2
    ]
