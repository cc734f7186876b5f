-- What is read as a certificate is its text.
use Rattle.std.proofs.Common.{◌≡◌, ℕ, ◌-◌, ◌≤◌, Bool, true, false, ◌&&◌, leb, List, [], ◌∷◌, ◌++◌, length, Ok, Option, Some, None, refl, sym, ap, ◌∙◌, inl, inr}
use Rattle.std.specs.Prelude.{IsTrue}
use Rattle.std.specs.Str.{bytes_eq}
use Rattle.std.proofs.lemmas.Slice.Eq.{bytes_eq-Decides}
use Rattle.std.proofs.lemmas.List.{append-nil}
use Rattle.std.proofs.lemmas.Bool.{leb-true}
use Rattle.eac_base.specs.Bytes.{AreBytes, is_empty}
use Rattle.eac_base.specs.Answers.{unless, some_or}
use Rattle.tlv_core.specs.Object.{object}
use Rattle.cv_dates.specs.Calendar.{date_of}
use Rattle.chat_rights.specs.Template.{template_text}
use Rattle.signature_provider.specs.declared.key.Key.{Key}
use Rattle.signature_provider.specs.Key.{is_key, key_fits, key_content, key_object}
use Rattle.cvc_grammar.specs.declared.certificate.CertBody.{CertBody}
use Rattle.cvc_grammar.specs.declared.certificate.Cert.{Cert}
use Rattle.cvc_grammar.specs.KeyObject.{read_key}
use Rattle.cvc_grammar.specs.Certificate.{profile_object, extensions_text, body_content, signature_object, cert_text, HasLegalFields, IsCert, is_signature, is_key_of_body, longest_cert}
use Rattle.cvc_grammar.specs.ReadingOrder.{Part, Found, expected, profile_in, reference_in, key_in, template_in, date_in, extensions_in, signature_in, cert_body_in, signed_in, whole}
use Rattle.cvc_grammar.specs.Laws.{WriteAfterRead}
use Rattle.cvc_grammar.proofs.CertAgain.{regrouped}
use Rattle.eac_base.proofs.Steps.{chosen, empty_is, bind_ok, unless_ok, ok_is}
use Rattle.cvc_grammar.proofs.Stood.{Stood, stood}
use Rattle.cvc_grammar.proofs.FieldsStand.{ReadThere, there_of, reference_stands, date_stands, template_there}
use Rattle.cvc_grammar.proofs.KeyStands.{key_stands}

some_ok : {A F : Type 0} (o : Option A) (f : F) (x : A) → some_or o f ≡ Ok x → o ≡ Some x
some_ok (Some y) f x e = cc
some_ok None f x e = absurd cc

one_step : {F : Type 0} (b : Bool) (f : F) (u : Unit {0}) → unless b f ≡ Ok u → b ≡ true
one_step true f u e = refl
one_step false f u e = absurd cc

pub profile_there : (part rest : Part) → AreBytes part.bytes → profile_in part ≡ Ok rest → ReadThere 0x5f29 part (0 ∷ []) rest
profile_there part rest b e =
    let o = bind_ok (expected 0x5f29 part) _ rest e in
    let same = unless_ok (bytes_eq o.0.content.bytes (0 ∷ [])) _ _ rest o.2 in
    there_of 0x5f29 part o.0 (0 ∷ []) rest (stood 0x5f29 part o.0 b o.1) ((bytes_eq-Decides o.0.content.bytes (0 ∷ [])).0 same.0) (ok_is o.0.rest rest same.1)

fits_is : (size : ℕ) (content : List ℕ) (k : Key) → size ≡ length (object 0x7f49 content) → content ≡ key_content k → leb size 1024 ≡ true → key_fits k ≡ true
fits_is size content k s c h = ap (λ (n : ℕ). leb n 1024) (sym (s ∙ ap (λ (x : List ℕ). length (object 0x7f49 x)) c)) ∙ h

key_legal : (k l : Key) → k ≡ l → IsTrue (is_key k) → key_fits k ≡ true → IsTrue (is_key l && key_fits l)
key_legal k l e h f = rw (← e, h, f) refl

pub key_there : (part : Part) (k : Key) (rest : Part) → AreBytes part.bytes → key_in part ≡ Ok (k, rest) → IsTrue (is_key k && key_fits k) × ReadThere 0x7f49 part (key_content k) rest
key_there part k rest b e =
    let o = bind_ok (expected 0x7f49 part) _ (k, rest) e in
    let v = bind_ok (some_or (read_key o.0.content.bytes) _) _ (k, rest) o.2 in
    let size = unless_ok (leb (o.0.rest.place - part.place) 1024) _ _ (k, rest) v.2 in
    let pair = ok_is (v.0, o.0.rest) (k, rest) size.1 in
    let s = stood 0x7f49 part o.0 b o.1 in
    let key = key_stands o.0.content.bytes v.0 s.content_bytes (some_ok (read_key o.0.content.bytes) _ v.0 v.1) in
    let value : v.0 ≡ k = ap (λ (p : Key × Part). p.0) pair in (
      key_legal v.0 k value key.0 (fits_is (o.0.rest.place - part.place) o.0.content.bytes v.0 s.size key.1 size.0),
      there_of 0x7f49 part o.0 (key_content k) rest s (key.1 ∙ ap key_content value) (ap (λ (p : Key × Part). p.1) pair),
    )

extension_text : (part : Part) (f : Found) (x : Option (List ℕ)) → Stood 0x65 part f → f.rest.bytes ≡ [] → (let o : Option (List ℕ) = Some f.content.bytes in o) ≡ x → part.bytes ≡ extensions_text x
extension_text part f x s n e = s.text ∙ ap (λ (r : List ℕ). object 0x65 f.content.bytes ++ r) n ∙ append-nil (object 0x65 f.content.bytes) ∙ ap extensions_text e

pub extensions_there : (part : Part) (x : Option (List ℕ)) → AreBytes part.bytes → extensions_in part ≡ Ok x → part.bytes ≡ extensions_text x
extensions_there part x b e =
    elim (chosen (is_empty part.bytes) (Ok None) _ _ e) [
      | inl p ↦ empty_is part.bytes p.0 ∙ ap extensions_text (ok_is None x p.1)
      | inr q ↦
          let o = bind_ok (expected 0x65 part) _ x q.1 in
          let n = unless_ok (is_empty o.0.rest.bytes) _ _ x o.2 in
          extension_text part o.0 x (stood 0x65 part o.0 b o.1) (empty_is o.0.rest.bytes n.0) (ok_is (Some o.0.content.bytes) x n.1)
    ]

signature_along : (s t : List ℕ) → s ≡ t → IsTrue (is_signature s) → IsTrue (is_signature t)
signature_along s t e h = rw (← e) h

pub signature_there : (part : Part) (s : List ℕ) (rest : Part) → AreBytes part.bytes → signature_in part ≡ Ok (s, rest) → IsTrue (is_signature s) × ReadThere 0x5f37 part s rest
signature_there part s rest b e =
    let o = bind_ok (expected 0x5f37 part) _ (s, rest) e in
    let size = unless_ok (is_signature o.0.content.bytes) _ _ (s, rest) o.2 in
    let pair = ok_is (o.0.content.bytes, o.0.rest) (s, rest) size.1 in
    let value : o.0.content.bytes ≡ s = ap (λ (p : List ℕ × Part). p.0) pair in
    (signature_along o.0.content.bytes s value size.0, there_of 0x5f37 part o.0 s rest (stood 0x5f37 part o.0 b o.1) value (ap (λ (p : List ℕ × Part). p.1) pair))

-- ---- the body

text_from : (a b c d e f g h t0 t1 t2 t3 t4 t5 t6 : List ℕ) → t0 ≡ a ++ t1 → t1 ≡ b ++ t2 → t2 ≡ c ++ t3 → t3 ≡ d ++ t4 → t4 ≡ e ++ t5 → t5 ≡ f ++ t6 → t6 ≡ g ++ h
    → t0 ≡ a ++ b ++ c ++ d ++ e ++ f ++ g ++ h
text_from a b c d e f g h t0 t1 t2 t3 t4 t5 t6 e0 e1 e2 e3 e4 e5 e6 = rw (e0, e1, e2, e3, e4, e5, e6) (sym (regrouped a b c d e f g h))

record BodyThere (part : Part) (b : CertBody) : Type 0 where
  text : part.bytes ≡ body_content b
  fields : HasLegalFields b
  key : IsTrue (is_key_of_body b)

body_same : (part : Part) (b c : CertBody) → b ≡ c → BodyThere part b → BodyThere part c
body_same part b c e h = rw (← e) h

body_there : (part : Part) (b : CertBody) → AreBytes part.bytes → cert_body_in part ≡ Ok b → BodyThere part b
body_there part b bytes e =
    let s = bind_ok (profile_in part) _ b e in
    let a = bind_ok (reference_in 0x42 s.0) _ b s.2 in
    let k = bind_ok (key_in a.0.1) _ b a.2 in
    let h = bind_ok (reference_in 0x5f20 k.0.1) _ b k.2 in
    let t = bind_ok (template_in h.0.1) _ b h.2 in
    let f = bind_ok (date_in 0x5f25 t.0.1) _ b t.2 in
    let u = bind_ok (date_in 0x5f24 f.0.1) _ b f.2 in
    let x = bind_ok (extensions_in u.0.1) _ b u.2 in
    let made : CertBody = record { authority = a.0.0; key = k.0.0; holder = h.0.0; template = t.0.0; from = f.0.0; until = u.0.0; extensions = x.0 } in
    let s_there = profile_there part s.0 bytes s.1 in
    let a_there = reference_stands 0x42 s.0 a.0.0 a.0.1 s_there.bytes a.1 in
    let k_there = key_there a.0.1 k.0.0 k.0.1 a_there.1.bytes k.1 in
    let h_there = reference_stands 0x5f20 k.0.1 h.0.0 h.0.1 k_there.1.bytes h.1 in
    let t_there = template_there h.0.1 t.0.0 t.0.1 h_there.1.bytes t.1 in
    let f_there = date_stands 0x5f25 t.0.1 f.0.0 f.0.1 t_there.1.bytes f.1 in
    let u_there = date_stands 0x5f24 f.0.1 u.0.0 u.0.1 f_there.1.bytes u.1 in
    let x_there = extensions_there u.0.1 x.0 u_there.1.bytes x.1 in
    body_same part made b (ok_is made b x.2) (record {
      text = text_from profile_object (object 0x42 a.0.0) (key_object k.0.0) (object 0x5f20 h.0.0) (object 0x7f4c (template_text t.0.0)) (object 0x5f25 (date_of f.0.0)) (object 0x5f24 (date_of u.0.0)) (extensions_text x.0)
          part.bytes s.0.bytes a.0.1.bytes k.0.1.bytes h.0.1.bytes t.0.1.bytes f.0.1.bytes
          s_there.there a_there.1.there k_there.1.there h_there.1.there t_there.1.there f_there.1.there (u_there.1.there ∙ ap (λ (y : List ℕ). object 0x5f24 (date_of u.0.0) ++ y) x_there);
      fields = record { authority = a_there.0; holder = h_there.0; rights = t_there.0; from = f_there.0; until = u_there.0 };
      key = k_there.0;
    })

-- ---- the whole certificate

pub record SignedThere (part body : Part) (signature : List ℕ) : Type 0 where
  pub text : part.bytes ≡ object 0x7f4e body.bytes ++ signature_object signature
  pub bytes : AreBytes body.bytes
  pub legal : IsTrue (is_signature signature)

signed_text : (part : Part) (f : Found) (signature : List ℕ) (rest : Part) → Stood 0x7f4e part f → ReadThere 0x5f37 f.rest signature rest → rest.bytes ≡ [] → part.bytes ≡ object 0x7f4e f.content.bytes ++ signature_object signature
signed_text part f signature rest s r n =
    s.text ∙ ap (λ (x : List ℕ). object 0x7f4e f.content.bytes ++ x) (r.there ∙ ap (λ (x : List ℕ). object 0x5f37 signature ++ x) n ∙ append-nil (object 0x5f37 signature))

signed_same : (part a b : Part) (s t : List ℕ) → a ≡ b → s ≡ t → SignedThere part a s → SignedThere part b t
signed_same part a b s t e f h = rw (← e, ← f) h

pub signed_there : (part : Part) (body : Part) (signature : List ℕ) → AreBytes part.bytes → signed_in part ≡ Ok (body, signature) → SignedThere part body signature
signed_there part body signature b e =
    let o = bind_ok (expected 0x7f4e part) _ (body, signature) e in
    let g = bind_ok (signature_in o.0.rest) _ (body, signature) o.2 in
    let n = unless_ok (is_empty g.0.1.bytes) _ _ (body, signature) g.2 in
    let pair = ok_is (o.0.content, g.0.0) (body, signature) n.1 in
    let s = stood 0x7f4e part o.0 b o.1 in
    let r = signature_there o.0.rest g.0.0 g.0.1 s.rest_bytes g.1 in
    signed_same part o.0.content body g.0.0 signature (ap (λ (p : Part × List ℕ). p.0) pair) (ap (λ (p : Part × List ℕ). p.1) pair) (record {
      text = signed_text part o.0 g.0.0 g.0.1 s r.1 (empty_is g.0.1.bytes n.0);
      bytes = s.content_bytes;
      legal = r.0;
    })

cert_same : (bytes : List ℕ) (c d : Cert) → c ≡ d → IsCert c bytes → IsCert d bytes
cert_same bytes c d e h = rw (← e) h

size_along : (bytes text : List ℕ) → bytes ≡ text → leb (length bytes) longest_cert ≡ true → length text ≤ longest_cert
size_along bytes text e h = rw (← e) (leb-true (length bytes) longest_cert h)

whole_text : (bytes : List ℕ) (f : Found) (body : Part) (c : Cert) → Stood 0x7f21 (whole bytes) f → f.rest.bytes ≡ [] → SignedThere f.content body c.signature → body.bytes ≡ body_content c.body → bytes ≡ cert_text c
whole_text bytes f body c s n g t =
    s.text ∙ ap (λ (x : List ℕ). object 0x7f21 f.content.bytes ++ x) n ∙ append-nil (object 0x7f21 f.content.bytes)
    ∙ ap (object 0x7f21) (g.text ∙ ap (λ (x : List ℕ). object 0x7f4e x ++ signature_object c.signature) t)

pub write_after_read : WriteAfterRead
write_after_read c bytes b e =
    let size = unless_ok (leb (length bytes) longest_cert) _ _ c e in
    let o = bind_ok (expected 0x7f21 (whole bytes)) _ c size.1 in
    let n = unless_ok (is_empty o.0.rest.bytes) _ _ c o.2 in
    let g = bind_ok (signed_in o.0.content) _ c n.1 in
    let d = bind_ok (cert_body_in g.0.0) _ c g.2 in
    let made : Cert = record { body = d.0; signature = g.0.1 } in
    let s = stood 0x7f21 (whole bytes) o.0 b o.1 in
    let signed = signed_there o.0.content g.0.0 g.0.1 s.content_bytes g.1 in
    let body = body_there g.0.0 d.0 signed.bytes d.1 in
    let text = whole_text bytes o.0 g.0.0 made s (empty_is o.0.rest.bytes n.0) signed body.text in
    cert_same bytes made c (ok_is made c d.2) (record {
      fields = body.fields;
      limits = record { key = body.key; signature = signed.legal; size = size_along bytes (cert_text made) text size.0 };
      spelling = text;
    })

-- The content of a body that was read is its text.
pub body_stands : (part : Part) (b : CertBody) → AreBytes part.bytes → cert_body_in part ≡ Ok b → part.bytes ≡ body_content b
body_stands part b bytes e = let h = body_there part b bytes e in h.text
