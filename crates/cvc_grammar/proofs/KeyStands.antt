-- A key that was read stands there.
use Rattle.std.proofs.Common.{◌≡◌, ℕ, ◌-◌, Bool, cond, ◌&&◌, not, eqb, List, [], ◌∷◌, ◌++◌, length, take, Result, Ok, Err, Option, Some, None, refl, sym, ap, ◌∙◌, append_assoc, arith, inl, inr}
use Rattle.std.specs.Prelude.{IsTrue}
use Rattle.std.specs.Str.{bytes_eq}
use Rattle.std.proofs.lemmas.Slice.Eq.{bytes_eq-Decides}
use Rattle.std.proofs.lemmas.List.{length-append, take_at}
use Rattle.std.proofs.lemmas.Bool.{eqb-true}
use Rattle.eac_base.specs.Bytes.{AreBytes, is_empty}
use Rattle.tlv_core.specs.declared.TlvRefusal.{TlvRefusal}
use Rattle.tlv_core.specs.Object.{object, First, first_object, onward, after_objects}
use Rattle.tlv_core.proofs.Objects.{reads_what_stands}
use Rattle.signature_provider.specs.declared.key.Algorithm.{Algorithm}
use Rattle.signature_provider.specs.declared.key.Key.{Key}
use Rattle.signature_provider.specs.Key.{is_key, is_elliptic, key_values, key_content, algorithm_identifier, domain_tags}
use Rattle.cvc_grammar.specs.KeyObject.{read_key, key_after, spelt_key, spelt_algorithm, elliptic_with, elliptic_after, if_key}
use Rattle.cvc_grammar.proofs.KeyAgain.{and_both}
use Rattle.eac_base.proofs.Steps.{chosen, AreBytes-back}
use Rattle.cvc_grammar.proofs.Stood.{along}

some_is : {A : Type 0} (x y : A) → (let o : Option A = Some x in o) ≡ Some y → x ≡ y
some_is x y e = cc

-- What follows objects is the end of the bytes that they stand in.
record Ends (v rest : List ℕ) : Type 0 where
  front : List ℕ
  parts : v ≡ front ++ rest

onward_ends : (tag : ℕ) (others : List ℕ → Option (List ℕ)) (v rest : List ℕ) (r : Result First TlvRefusal) → AreBytes v → first_object v ≡ r → onward tag others r ≡ Some rest
    → ((x : List ℕ) → AreBytes x → others x ≡ Some rest → Ends x rest) → Ends v rest
onward_ends tag others v rest (Err d) b e f again = absurd cc
onward_ends tag others v rest (Ok o) b e f again =
    elim (chosen (eqb o.tag tag && not (is_empty o.content)) (others o.rest) None _ f) [
      | inl p ↦
          let s = (reads_what_stands v o b e).2 in
          let inner = again o.rest (AreBytes-back (object o.tag o.content) o.rest (along v (object o.tag o.content ++ o.rest) s b)) p.1 in
          record { front = object o.tag o.content ++ inner.front; parts = s ∙ ap (λ (x : List ℕ). object o.tag o.content ++ x) inner.parts ∙ sym (append_assoc (object o.tag o.content) inner.front rest) }
      | inr q ↦ absurd (let no = q.1 in cc)
    ]

after_ends : (tags v rest : List ℕ) → AreBytes v → after_objects tags v ≡ Some rest → Ends v rest
after_ends [] v rest b e = record { front = []; parts = some_is v rest e }
after_ends (tag ∷ tags) v rest b e = onward_ends tag (after_objects tags) v rest (first_object v) b refl e (λ x c h. after_ends tags x rest c h)

-- ---- the point and what follows it

abbrev key_of : Algorithm → List ℕ → List ℕ → List ℕ → Key
key_of a d p c = record { algorithm = a; domain = d; point = p; cofactor = c }

after_point : (a : Algorithm) (d v : List ℕ) (k : Key) (r : Result First TlvRefusal) → AreBytes v → first_object v ≡ r → elliptic_after a d r ≡ Some k
    → (k.algorithm ≡ a) × (k.domain ≡ d) × (v ≡ object 0x86 k.point ++ k.cofactor)
after_point a d v k (Err x) b e f = absurd cc
after_point a d v k (Ok o) b e f =
    elim (chosen (eqb o.tag 0x86) (Some (key_of a d o.content o.rest)) None _ f) [
      | inl p ↦
          let s = (reads_what_stands v o b e).2 in
          let same = some_is (key_of a d o.content o.rest) k p.1 in
          (sym (ap (λ (x : Key). x.algorithm) same), sym (ap (λ (x : Key). x.domain) same), s ∙ spelt o k (eqb-true o.tag 0x86 p.0) (ap (λ (x : Key). x.point) same) (ap (λ (x : Key). x.cofactor) same))
      | inr q ↦ absurd (let no = q.1 in cc)
    ]
  where
    spelt : (o : First) (k : Key) → o.tag ≡ 0x86 → o.content ≡ k.point → o.rest ≡ k.cofactor → object o.tag o.content ++ o.rest ≡ object 0x86 k.point ++ k.cofactor
    spelt o k t p c = rw (t, p, c) refl

-- The key values as they stand for an elliptic key.
abbrev Elliptic : Algorithm → List ℕ → Key → Type 0
Elliptic a v k = (k.algorithm ≡ a) × (v ≡ k.domain ++ object 0x86 k.point ++ k.cofactor)

joined : (d front rest p c v : List ℕ) → v ≡ front ++ rest → d ≡ take (length v - length rest) v → rest ≡ object 0x86 p ++ c → v ≡ d ++ object 0x86 p ++ c
joined d front rest p c v parts dd r =
    let front_is : take (length v - length rest) v ≡ front =
    ap (λ (x : List ℕ). take (length x - length rest) x) parts ∙ take_at front rest (length (front ++ rest) - length rest) (omega (arith, length-append front rest)) in
    parts ∙ ap (λ (x : List ℕ). front ++ x) r ∙ sym (append_assoc front (object 0x86 p) c) ∙ ap (λ (x : List ℕ). x ++ object 0x86 p ++ c) (sym front_is ∙ sym dd)

elliptic_stands : (a : Algorithm) (v : List ℕ) (k : Key) (o : Option (List ℕ)) → AreBytes v → after_objects domain_tags v ≡ o → elliptic_with a v o ≡ Some k → Elliptic a v k
elliptic_stands a v k None b e f =
    let p = after_point a [] v k (first_object v) b refl f in
    (p.0, p.2 ∙ ap (λ (d : List ℕ). d ++ object 0x86 k.point ++ k.cofactor) (sym p.1))
elliptic_stands a v k (Some rest) b e f =
    let ends = after_ends domain_tags v rest b e in
    let p = after_point a (take (length v - length rest) v) rest k (first_object rest) (AreBytes-back ends.front rest (along v (ends.front ++ rest) ends.parts b)) refl f in
    (p.0, joined k.domain ends.front rest k.point k.cofactor v ends.parts p.1 p.2)

-- ---- the whole content

values_of : (a : Algorithm) (v : List ℕ) (k : Key) → AreBytes v → spelt_key a v ≡ Some k → (k.algorithm ≡ a) × (v ≡ key_values k)
values_of a v k b e =
    elim (chosen (is_elliptic a) (elliptic_with a v (after_objects domain_tags v)) (Some (key_of a [] v [])) _ e) [
      | inl p ↦
          let s = elliptic_stands a v k (after_objects domain_tags v) b refl p.1 in
          (s.0, s.1 ∙ sym (ap (λ (x : Bool). cond x (k.domain ++ object 0x86 k.point ++ k.cofactor) k.point) (ap is_elliptic s.0 ∙ p.0)))
      | inr q ↦
          let same = some_is (key_of a [] v []) k q.1 in
          let algorithm : k.algorithm ≡ a = sym (ap (λ (x : Key). x.algorithm) same) in
          (algorithm, ap (λ (x : Key). x.point) same ∙ sym (ap (λ (x : Bool). cond x (k.domain ++ object 0x86 k.point ++ k.cofactor) k.point) (ap is_elliptic algorithm ∙ q.0)))
    ]

if_key_some : (o : Option Key) (k : Key) → if_key o ≡ Some k → (o ≡ Some k) × IsTrue (is_key k)
if_key_some None k e = absurd cc
if_key_some (Some x) k e =
    elim (chosen (is_key x) (Some x) None _ e) [
      | inl p ↦ (p.1, legal x k (some_is x k p.1) p.0)
      | inr q ↦ absurd (let no = q.1 in cc)
    ]
  where
    legal : (x k : Key) → x ≡ k → IsTrue (is_key x) → IsTrue (is_key k)
    legal x k same h = rw (← same) h

content_is : (content ident rest : List ℕ) (tag : ℕ) (a : Algorithm) (k : Key) → content ≡ object tag ident ++ rest → tag ≡ 0x06 → ident ≡ algorithm_identifier a → k.algorithm ≡ a → rest ≡ key_values k → content ≡ key_content k
content_is content ident rest tag a k c t i ka r = c ∙ rw (t, i, ← ka, r) refl

key_after_stands : (content : List ℕ) (k : Key) (r : Result First TlvRefusal) → AreBytes content → first_object content ≡ r → key_after r ≡ Some k → IsTrue (is_key k) × (content ≡ key_content k)
key_after_stands content k (Err x) b e f = absurd cc
key_after_stands content k (Ok o) b e f =
    elim (chosen (eqb o.tag 0x06 && bytes_eq o.content (algorithm_identifier (spelt_algorithm o.content))) (if_key (spelt_key (spelt_algorithm o.content) o.rest)) None _ f) [
      | inl p ↦
          let tests = and_both (eqb o.tag 0x06) (bytes_eq o.content (algorithm_identifier (spelt_algorithm o.content))) p.0 in
          let s = (reads_what_stands content o b e).2 in
          let key = if_key_some (spelt_key (spelt_algorithm o.content) o.rest) k p.1 in
          let values = values_of (spelt_algorithm o.content) o.rest k (AreBytes-back (object o.tag o.content) o.rest (along content (object o.tag o.content ++ o.rest) s b)) key.0 in (
            key.1,
            content_is content o.content o.rest o.tag (spelt_algorithm o.content) k s (eqb-true o.tag 0x06 tests.0)
                ((bytes_eq-Decides o.content (algorithm_identifier (spelt_algorithm o.content))).0 tests.1) values.0 values.1,
          )
      | inr q ↦ absurd (let no = q.1 in cc)
    ]

pub key_stands : (content : List ℕ) (k : Key) → AreBytes content → read_key content ≡ Some k → IsTrue (is_key k) × (content ≡ key_content k)
key_stands content k b e = key_after_stands content k (first_object content) b refl e
