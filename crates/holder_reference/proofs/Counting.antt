-- The sequence of one more.
use Rattle.std.proofs.Common.{◌≡◌, ℕ, ◌+◌, ◌<◌, Bool, true, false, List, [], ◌∷◌, length, refl, sym, ap, ◌∙◌, subst, arith, inl, inr}
use Rattle.std.specs.Prelude.{IsTrue, ◌&&◌, ◌||◌, ◌⊎◌, ◌↔◌, not, nat_lt, if◌then◌else◌, Option, Some, None, IfSome, ◌==◌}
use Rattle.std.specs.List.{list_all}
use Rattle.std.proofs.lemmas.Bool.Decides.{nat_tests}
use Rattle.eac_base.specs.Text.{is_digit}
use Rattle.holder_reference.specs.Reference.{is_capital, is_sequence}
use Rattle.holder_reference.specs.Sequence.{five_digits, IsNumber, is_decimal_sequence, has_letter, number_said, next_sequence}
use Rattle.holder_reference.proofs.Digits.{both, decimals_are_numbers}

-- ---- one is added

Follows : List ℕ → List ℕ → Type 0
Follows s next = (n : ℕ) × IsNumber s n × IsNumber next (n + 1)

follows : (s : List ℕ) → IsTrue (is_decimal_sequence s) → number_said s < 99999 → Follows s (five_digits (number_said s + 1))
unfolding Follows
follows s is small = let n = decimals_are_numbers s is in (number_said s, (n.0, sym n.1), (omega arith, refl))

where_it_counts : (s : List ℕ) (d t : Bool) → is_decimal_sequence s ≡ d → nat_lt (number_said s) 99999 ≡ t
    → IfSome (if d && t then Some (five_digits (number_said s + 1)) else None) (Follows s)
where_it_counts s true true d t = follows s d (grind (arith, nat_tests))
where_it_counts s true false d t = tt
where_it_counts s false t d e = tt

pub adds_one : (s : List ℕ) (o : Option (List ℕ)) → o ≡ next_sequence s → IfSome o (λ next. (n : ℕ) × IsNumber s n × IsNumber next (n + 1))
unfolding Follows
adds_one s o e = subst (λ (p : Option (List ℕ)). IfSome p (λ next. (n : ℕ) × IsNumber s n × IsNumber next (n + 1))) (sym e) (where_it_counts s (is_decimal_sequence s) (nat_lt (number_said s) 99999) refl refl)

-- ---- there is none

apart : (b : ℕ) → IsTrue (is_digit b) → is_capital b ≡ false
apart b is = grind (arith, nat_tests)

step : (d c more all : Bool) → IsTrue (d || c) → (IsTrue d → c ≡ false) → more ≡ not all → (c || more) ≡ not (d && all)
step true true more all is one e = let no : true ≡ false = one refl in cc
step true false more all is one e = e
step false true more all is one e = refl
step false false more all is one e = cc

letters : (s : List ℕ) → IsTrue (list_all (λ b. is_digit b || is_capital b) s) → has_letter s ≡ not (list_all is_digit s)
letters [] is = refl
letters (b ∷ s) is =
    let p = both (is_digit b || is_capital b) (list_all (λ b. is_digit b || is_capital b) s) is in
    step (is_digit b) (is_capital b) (has_letter s) (list_all is_digit s) p.0 (apart b) (letters s p.1)

joined : (five digits letter : Bool) → IsTrue five → letter ≡ not digits → letter ≡ not (five && digits)
joined true digits letter is e = e
joined false digits letter is e = cc

letter_or_number : (s : List ℕ) → IsTrue (is_sequence s) → has_letter s ≡ not (is_decimal_sequence s)
letter_or_number s is =
    let p = both (length s == 5) (list_all (λ b. is_digit b || is_capital b) s) is in
    joined (length s == 5) (list_all is_digit s) (has_letter s) p.0 (letters s p.1)

where_there_is_none : (s : List ℕ) (d t : Bool) → is_decimal_sequence s ≡ d → nat_lt (number_said s) 99999 ≡ t → has_letter s ≡ not d
    → (if d && t then Some (five_digits (number_said s + 1)) else None) ≡ None → (s ≡ five_digits 99999) ⊎ IsTrue (has_letter s)
where_there_is_none s true true d t l none = cc
where_there_is_none s true false d t l none =
    let n = decimals_are_numbers s d in
    let last : number_said s ≡ 99999 = grind (arith, nat_tests) in
    inl (sym n.1 ∙ ap five_digits last)
where_there_is_none s false t d e l none = inr l

by_a_letter : (s : List ℕ) (d t : Bool) → has_letter s ≡ not d → IsTrue (has_letter s) → (if d && t then Some (five_digits (number_said s + 1)) else None) ≡ None
by_a_letter s true t l is = cc
by_a_letter s false t l is = refl

after_the_last : (s : List ℕ) → s ≡ five_digits 99999 → next_sequence s ≡ None
after_the_last s e = subst (λ (l : List ℕ). next_sequence l ≡ None) (sym e) refl

there_is_none : (s : List ℕ) → IsTrue (is_sequence s) → (next_sequence s ≡ None) ↔ ((s ≡ five_digits 99999) ⊎ IsTrue (has_letter s))
there_is_none s is =
    let l = letter_or_number s is in (
      where_there_is_none s (is_decimal_sequence s) (nat_lt (number_said s) 99999) refl refl l,
      λ h. elim h [ inl e ↦ after_the_last s e | inr e ↦ by_a_letter s (is_decimal_sequence s) (nat_lt (number_said s) 99999) l e ],
    )

pub none_exactly : (s : List ℕ) (o : Option (List ℕ)) → IsTrue (is_sequence s) → o ≡ next_sequence s → (o ≡ None) ↔ ((s ≡ five_digits 99999) ⊎ IsTrue (has_letter s))
none_exactly s o is e = subst (λ (p : Option (List ℕ)). (p ≡ None) ↔ ((s ≡ five_digits 99999) ⊎ IsTrue (has_letter s))) (sym e) (there_is_none s is)
