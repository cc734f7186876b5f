-- Marks, and what one more does.
use Rattle.std.proofs.Common.{◌≡◌, ℕ, zero, suc, ◌+◌, ◌<◌, ◌≤◌, Bool, true, false, List, [], ◌∷◌, length, Some, refl, sym, ap, ◌∙◌, ◌⊎◌, inl, inr, arith, set, replicate}
use Rattle.std.specs.Prelude.{slice_get}
use Rattle.std.proofs.lemmas.Option.{slice_get_within}
use Rattle.std.proofs.lemmas.List.{length-replicate}
use Rattle.terminal_desk.specs.Walks.{IsMet, AreUnmarked, unmet}

pub unmet-le-length : (met : List Bool) → unmet met ≤ length met
unmet-le-length [] = omega arith
unmet-le-length (true ∷ met) = let h = unmet-le-length met in omega arith
unmet-le-length (false ∷ met) = let h = unmet-le-length met in omega arith

-- one unmarked less
pub unmet-set : (met : List Bool) (place : ℕ) → slice_get met place ≡ Some false → unmet (set met place true) + 1 ≡ unmet met
unmet-set [] place h = absurd (cc)
unmet-set (true ∷ met) zero h = absurd (cc)
unmet-set (false ∷ met) zero h = omega arith
unmet-set (true ∷ met) (suc place) h = unmet-set met place h
unmet-set (false ∷ met) (suc place) h = let more = unmet-set met place h in omega arith

-- what is marked is this place or was marked before
pub met_so_far : (met : List Bool) (place p : ℕ) → IsMet (set met place true) p → (p ≡ place) ⊎ IsMet met p
met_so_far [] place p h = inr h
met_so_far (mark ∷ met) zero zero h = inl refl
met_so_far (mark ∷ met) zero (suc p) h = inr h
met_so_far (mark ∷ met) (suc place) zero h = inr h
met_so_far (mark ∷ met) (suc place) (suc p) h = elim (met_so_far met place p h) [ (inl e) ↦ inl (ap suc e) | (inr m) ↦ inr m ]

none_met : (n p : ℕ) → IsMet (replicate n false) p → ⊥
none_met zero p h = cc
none_met (suc n) zero h = cc
none_met (suc n) (suc p) h = none_met n p h

pub are_unmarked : (n : ℕ) → AreUnmarked n (replicate n false)
are_unmarked n = record { all = length-replicate n false; none = none_met n }

-- marks that are false up to the last
pub unmarked_all : (met : List Bool) (n : ℕ) → length met ≡ n → ((p : ℕ) → p < n → slice_get met p ≡ Some false) → AreUnmarked n met
unmarked_all met n all unmarked = record {
  all = all;
  none = λ p marked.
      let within : p < n = let here = slice_get_within met p true marked in omega arith in
      let h : Some true ≡ Some false = sym marked ∙ unmarked p within in
      cc;
}

pub one_more : (met : List Bool) (at p : ℕ) → at < length met → (p < at → slice_get met p ≡ Some false) → p < at + 1 → slice_get (set met at false) p ≡ Some false
one_more [] at p within before less = absurd (omega arith)
one_more (mark ∷ met) zero zero within before less = refl
one_more (mark ∷ met) zero (suc p) within before less = absurd (omega arith)
one_more (mark ∷ met) (suc at) zero within before less = before (omega arith)
one_more (mark ∷ met) (suc at) (suc p) within before less = one_more met at p (omega arith) (λ h. before (omega arith)) (omega arith)
