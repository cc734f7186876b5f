-- Items lead on by one, and what each step keeps holds at the end.
use Rattle.std.proofs.Common.{◌≡◌, Bool, true, false, cond, List, [], ◌∷◌, ◌++◌, refl, sym, ap, ◌∙◌, subst, append-nil, append_assoc}
use Rattle.std.specs.Prelude.{flat_map, filter}
use Rattle.std.proofs.lemmas.List.Elements.{filter-append}
use Rattle.eac_net.specs.Goes.{Goes}

module _ {S I : Type 0} (step : S → I → S → Type 0) where
  pub goes_more : (first : S) (items : List I) (mid last : S) (i : I) → Goes step first items mid → step mid i last → Goes step first (items ++ i ∷ []) last
  goes_more first [] mid last i r s = (last, subst (λ (x : S). step x i last) r s, refl)
  goes_more first (x ∷ items) mid last i r s = (r.0, r.1, goes_more r.0 items mid last i r.2 s)

module _ {I A : Type 0} (f : I → List A) where
  pub flat_more : (items : List I) (i : I) → flat_map f (items ++ i ∷ []) ≡ flat_map f items ++ f i
  flat_more [] i = append-nil (f i)
  flat_more (x ∷ items) i = ap (λ (l : List A). f x ++ l) (flat_more items i) ∙ sym (append_assoc (f x) (flat_map f items) (f i))

-- items of which none passes the test leave out nothing
module _ {I : Type 0} (test : I → Bool) where
  cond_true : (b : Bool) (i : I) → b ≡ true → cond b (i ∷ []) [] ≡ i ∷ []
  cond_true true i is = refl
  cond_true false i is = absurd (cc)

  cond_false : (b : Bool) (i : I) → b ≡ false → cond b (i ∷ []) [] ≡ []
  cond_false true i is = absurd (cc)
  cond_false false i is = refl

  pub own_more : (items : List I) (i : I) → test i ≡ true → filter test (items ++ i ∷ []) ≡ filter test items ++ i ∷ []
  own_more items i is = filter-append test items (i ∷ []) ∙ ap (λ (l : List I). filter test items ++ l) (cond_true (test i) i is)

  pub own_same : (items : List I) (i : I) → test i ≡ false → filter test (items ++ i ∷ []) ≡ filter test items
  own_same items i is = filter-append test items (i ∷ []) ∙ ap (λ (l : List I). filter test items ++ l) (cond_false (test i) i is) ∙ append-nil (filter test items)
