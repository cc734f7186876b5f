-- What is read of the front of an input doesn't depend on what follows.
use Rattle.std.proofs.Common.{◌≡◌, ℕ, true, false, ◌&&◌, not, ltb, eqb, List, [], ◌∷◌, ◌++◌, length, take, drop, Result, Ok, Err, Option, Some, None, refl, sym, ap, ◌∙◌, append_assoc, arith, inl, inr}
use Rattle.std.proofs.lemmas.List.{length-append, length-take, take-append-drop, take_at, drop_at}
use Rattle.std.proofs.lemmas.Bool.{le-ltb, ltb-false}
use Rattle.std.specs.Option.{option_map_or}
use Rattle.eac_base.specs.Bytes.{is_empty}
use Rattle.eac_base.specs.Answers.{◌>>=◌}
use Rattle.tlv_core.specs.declared.TlvRefusal.{TlvRefusal}
use Rattle.tlv_core.specs.Object.{tag_at, length_at, one_byte_length, two_byte_length, first_object, First, onward, after_objects, are_objects}
use Rattle.tlv_core.proofs.Objects.{cut}
use Rattle.eac_base.proofs.Steps.{bind_ok, chosen, ok_is}

tag_more : (b more : List ℕ) (t : ℕ) (r : List ℕ) → tag_at b ≡ Ok (t, r) → tag_at (b ++ more) ≡ Ok (t, r ++ more)
tag_more [] more t r e = absurd cc
tag_more (f ∷ []) more t r e = grind arith
tag_more (f ∷ g ∷ b) more t r e = grind arith

one_more : (b more : List ℕ) (n : ℕ) (r : List ℕ) → one_byte_length b ≡ Ok (n, r) → one_byte_length (b ++ more) ≡ Ok (n, r ++ more)
one_more [] more n r e = absurd cc
one_more (f ∷ b) more n r e = grind arith

two_more : (b more : List ℕ) (n : ℕ) (r : List ℕ) → two_byte_length b ≡ Ok (n, r) → two_byte_length (b ++ more) ≡ Ok (n, r ++ more)
two_more [] more n r e = absurd cc
two_more (f ∷ []) more n r e = absurd cc
two_more (f ∷ g ∷ b) more n r e = grind arith

length_more : (b more : List ℕ) (n : ℕ) (r : List ℕ) → length_at b ≡ Ok (n, r) → length_at (b ++ more) ≡ Ok (n, r ++ more)
length_more [] more n r e = absurd cc
length_more (f ∷ b) more n r e = grind (arith, one_more b more n r, two_more b more n r)

cut_more : (t : ℕ) (size : ℕ × List ℕ) (more : List ℕ) (o : First) → cut t size ≡ Ok o → cut t (size.0, size.1 ++ more) ≡ Ok (record o { rest = o.rest ++ more })
cut_more t size more o e =
    elim (chosen (ltb (length size.1) size.0) _ _ _ e) [
      | inl p ↦ absurd (let no = p.1 in cc)
      | inr q ↦
          let same = ok_is _ o q.1 in
          let long = ltb-false (length size.1) size.0 q.0 in
          let split = take-append-drop size.0 size.1 in
          let joined : (take size.0 size.1 ++ (drop size.0 size.1 ++ more)) ≡ size.1 ++ more = sym (append_assoc (take size.0 size.1) (drop size.0 size.1) more) ∙ ap (λ (x : List ℕ). x ++ more) split in
          let enough : ltb (length (size.1 ++ more)) size.0 ≡ false = le-ltb _ _ (omega (arith, length-append size.1 more)) in
          let len : length (take size.0 size.1) ≡ size.0 = omega (arith, length-take size.0 size.1) in
          let front : take size.0 (size.1 ++ more) ≡ take size.0 size.1 = rw (← joined) (take_at (take size.0 size.1) (drop size.0 size.1 ++ more) size.0 len) in
          let back : drop size.0 (size.1 ++ more) ≡ drop size.0 size.1 ++ more = rw (← joined) (drop_at (take size.0 size.1) (drop size.0 size.1 ++ more) size.0 len) in
          rw (enough, front, back, ← same) refl
    ]

pub object_more : (b more : List ℕ) (o : First) → first_object b ≡ Ok o → first_object (b ++ more) ≡ Ok (record o { rest = o.rest ++ more })
object_more b more o e =
    let t = bind_ok (tag_at b) (λ tag. length_at tag.1 >>= cut tag.0) o e in
    let n = bind_ok (length_at t.0.1) (cut t.0.0) o t.2 in
    rw (tag_more b more t.0.0 t.0.1 t.1, length_more t.0.1 more n.0.0 n.0.1 n.1) (cut_more t.0.0 n.0 more o n.2)

-- ---- several objects

some_is : {A : Type 0} (x y : A) → (let o : Option A = Some x in o) ≡ Some y → x ≡ y
some_is x y e = cc

onward_more : (tag : ℕ) (others : List ℕ → Option (List ℕ)) (b more rest : List ℕ) (r : Result First TlvRefusal) → first_object b ≡ r → onward tag others r ≡ Some rest
    → ((x y : List ℕ) → others x ≡ Some y → others (x ++ more) ≡ Some (y ++ more)) → onward tag others (first_object (b ++ more)) ≡ Some (rest ++ more)
onward_more tag others b more rest (Err d) e f again = absurd cc
onward_more tag others b more rest (Ok o) e f again =
    elim (chosen (eqb o.tag tag && not (is_empty o.content)) (others o.rest) None _ f) [
      | inl p ↦ rw (object_more b more o e, p.0) (again o.rest rest p.1)
      | inr q ↦ absurd (let no = q.1 in cc)
    ]

pub after_more : (tags b more rest : List ℕ) → after_objects tags b ≡ Some rest → after_objects tags (b ++ more) ≡ Some (rest ++ more)
after_more [] b more rest e = ap (λ (x : List ℕ). Some (x ++ more)) (some_is b rest e)
after_more (tag ∷ tags) b more rest e = onward_more tag (after_objects tags) b more rest (first_object b) refl e (λ x y h. after_more tags x more y h)

-- ---- nothing is left

none_left : (o : Option (List ℕ)) → option_map_or is_empty o false ≡ true → o ≡ Some []
none_left (Some []) e = refl
none_left (Some (x ∷ xs)) e = absurd cc
none_left None e = absurd cc

pub objects_then : (tags b more : List ℕ) → are_objects tags b ≡ true → after_objects tags (b ++ more) ≡ Some more
objects_then tags b more e = after_more tags b more [] (none_left (after_objects tags b) e)
