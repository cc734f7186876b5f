-- A key that was written is read.
use Rattle.std.proofs.Common.{◌≡◌, ℕ, ◌-◌, ◌<◌, Bool, true, false, cond, ◌&&◌, ◌||◌, not, eqb, List, [], ◌++◌, length, take, Result, Ok, Some, refl, ap, ◌∙◌, append_assoc, arith, inl, inr, ◌⊎◌}
use Rattle.std.specs.Prelude.{IsTrue}
use Rattle.std.proofs.lemmas.List.{length-append, take_at}
use Rattle.eac_base.specs.Bytes.{is_empty}
use Rattle.tlv_core.specs.declared.TlvRefusal.{TlvRefusal}
use Rattle.tlv_core.specs.Object.{object, First, first_object, after_objects}
use Rattle.tlv_core.proofs.Objects.{object_again}
use Rattle.tlv_core.proofs.More.{objects_then}
use Rattle.eac_base.proofs.Steps.{empty_is}
use Rattle.signature_provider.specs.declared.key.Algorithm.{Algorithm}
use Rattle.signature_provider.specs.declared.key.Key.{Key}
use Rattle.signature_provider.specs.Key.{is_key, is_algorithm, is_elliptic, is_domain, is_cofactor, is_rsa_point, key_values, key_content, algorithm_identifier, domain_tags}
use Rattle.cvc_grammar.specs.KeyObject.{read_key, key_after, spelt_key, elliptic_with}

pub and_both : (a b : Bool) → (a && b) ≡ true → (a ≡ true) × (b ≡ true)
and_both true b e = (refl, e)
and_both false b e = absurd cc

or_one : (a b : Bool) → (a || b) ≡ true → (a ≡ true) ⊎ (b ≡ true)
or_one true b e = inl refl
or_one false b e = inr e

key_of : Algorithm → List ℕ → List ℕ → List ℕ → Key
key_of a d p c = record { algorithm = a; domain = d; point = p; cofactor = c }

-- with a domain
with_domain : (a : Algorithm) (d p c : List ℕ) → is_domain d ≡ true → length p < 65536 →
    elliptic_with a (d ++ object 0x86 p ++ c) (after_objects domain_tags (d ++ object 0x86 p ++ c)) ≡ Some (key_of a d p c)
unfolding key_of
with_domain a d p c domain short =
    let rest = object 0x86 p ++ c in
    let values = d ++ object 0x86 p ++ c in
    let regrouped : values ≡ d ++ rest = append_assoc d (object 0x86 p) c in
    let after : after_objects domain_tags values ≡ Some rest = ap (after_objects domain_tags) regrouped ∙ objects_then domain_tags d rest domain in
    let front : take (length values - length rest) values ≡ d =
    ap (λ (v : List ℕ). take (length v - length rest) v) regrouped ∙ take_at d rest (length (d ++ rest) - length rest) (omega (arith, length-append d rest)) in
    ap (elliptic_with a values) after ∙ rw (front, object_again 0x86 p c refl short) refl

-- without one
alone : (a : Algorithm) (v p : List ℕ) → (let r : Result First TlvRefusal = Ok (record { tag = 0x86; content = p; rest = [] }) in first_object v ≡ r)
    → elliptic_with a v (after_objects domain_tags v) ≡ Some (key_of a [] p [])
unfolding key_of
alone a v p read = rw read (rw read refl)

without_domain : (a : Algorithm) (p : List ℕ) → length p < 65536 →
    elliptic_with a ([] ++ object 0x86 p ++ []) (after_objects domain_tags ([] ++ object 0x86 p ++ [])) ≡ Some (key_of a [] p [])
without_domain a p short = alone a ([] ++ object 0x86 p ++ []) p (object_again 0x86 p [] refl short)

spelt_again : (a : Algorithm) (d p c : List ℕ) (b : Bool) → is_elliptic a ≡ b → length p < 65536
    → cond b (not (is_empty p) && ((is_domain d && is_cofactor c) || (is_empty d && is_empty c))) (is_empty d && is_empty c && is_rsa_point p) ≡ true
    → cond b (elliptic_with a (cond b (d ++ object 0x86 p ++ c) p) (after_objects domain_tags (cond b (d ++ object 0x86 p ++ c) p))) (Some (key_of a [] (cond b (d ++ object 0x86 p ++ c) p) [])) ≡ Some (key_of a d p c)
unfolding key_of
spelt_again a d p c true e short h =
    elim (or_one (is_domain d && is_cofactor c) (is_empty d && is_empty c) (and_both (not (is_empty p)) _ h).1) [
      | inl with ↦ with_domain a d p c (and_both (is_domain d) _ with).0 short
      | inr none ↦
          let parts = and_both (is_empty d) (is_empty c) none in
          let dd = empty_is d parts.0 in
          let cc' = empty_is c parts.1 in
          rw (dd, cc') (without_domain a p short)
    ]
spelt_again a d p c false e short h =
    let outer = and_both (is_empty d && is_empty c) (is_rsa_point p) h in
    let parts = and_both (is_empty d) (is_empty c) outer.0 in
    rw (empty_is d parts.0, empty_is c parts.1) refl

same_number : (n : ℕ) → eqb n n ≡ true
same_number n = grind arith

pub key_again : (k : Key) → IsTrue (is_key k) → length k.point < 65536 → read_key (key_content k) ≡ Some k
unfolding key_of
key_again k legal short =
    let a = k.algorithm in
    let o : First = record { tag = 0x06; content = algorithm_identifier a; rest = key_values k } in
    let read : first_object (key_content k) ≡ Ok o = object_again 0x06 (algorithm_identifier a) (key_values k) refl (omega arith) in
    let parts = and_both (is_algorithm a) _ legal in
    let spelt : spelt_key a (key_values k) ≡ Some k = spelt_again a k.domain k.point k.cofactor (is_elliptic a) refl short parts.1 in
    ap key_after read ∙ rw (same_number a.arc, same_number a.last, spelt, legal) refl
