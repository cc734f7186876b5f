-- Days compare as their texts do.
use Rattle.std.proofs.Common.{◌≡◌, ℕ, ◌+◌, ◌/◌, ◌%◌, ◌<◌, List, [], ◌∷◌, take, refl, sym, ap, ◌∙◌, arith, inl, inr, ◌⊎◌}
use Rattle.std.specs.Prelude.{sum}
use Rattle.std.specs.declared.cmp.Ordering.{Ordering}
use Rattle.std.specs.declared.cmp.Ordering.TheVariants.{Less, Equal, Greater}
use Rattle.std.specs.Ordering.{nat_cmp, ordering_then}
use Rattle.std.specs.Cmp.{nat_cmp_is}
use Rattle.std.specs.Cmp.Lexicographic.{slice_cmp}
use Rattle.std.proofs.lemmas.Bool.{cases_lt, cases_eq}
use Rattle.cv_dates.specs.Calendar.{DatesSortAsDays, TextsSortAsDays, place_in, all_months, date_of, ascii}
use Rattle.cv_dates.proofs.Places.{IsPlace, before_later}
use Rattle.cv_dates.proofs.Months.{place_of_day}

less : (a b : ℕ) → a < b → nat_cmp a b ≡ Less
less a b h = sym (nat_cmp_is a b Less h)

equal : (a b : ℕ) → a ≡ b → nat_cmp a b ≡ Equal
equal a b h = sym (nat_cmp_is a b Equal h)

greater : (a b : ℕ) → b < a → nat_cmp a b ≡ Greater
greater a b h = sym (nat_cmp_is a b Greater h)

three : (a b : ℕ) → (a < b) ⊎ ((a ≡ b) ⊎ (b < a))
three a b = elim (cases_lt a b) [ inl lt ↦ inl lt | inr ge ↦ inr (elim (cases_eq a b) [ inl e ↦ inl e | inr ne ↦ inr (omega (arith, ne)) ]) ]

-- Two numbers whose high part is compared first, and then the low part.
pub record SortBy (x y u v p q : ℕ) : Type 0 where
  pub higher : x < y → p < q
  pub lower : y < x → q < p
  pub then_higher : x ≡ y → u < v → p < q
  pub then_lower : x ≡ y → v < u → q < p
  pub then_same : x ≡ y → u ≡ v → p ≡ q

-- The low parts are compared where the high ones are equal.
by_low : (x y u v p q : ℕ) (o : Ordering) → SortBy x y u v p q → x ≡ y → ordering_then (nat_cmp u v) o ≡ ordering_then (nat_cmp p q) o
by_low x y u v p q o s e = elim (three u v) [ inl lt ↦ rw (less u v lt, less p q (s.then_higher e lt)) refl | inr rest ↦ rest_of rest ]
  where
    rest_of : ((u ≡ v) ⊎ (v < u)) → ordering_then (nat_cmp u v) o ≡ ordering_then (nat_cmp p q) o
    rest_of (inl same) = rw (equal u v same, equal p q (s.then_same e same)) refl
    rest_of (inr gt) = rw (greater u v gt, greater p q (s.then_lower e gt)) refl

by_parts : (x y u v p q : ℕ) (o : Ordering) → SortBy x y u v p q → ordering_then (nat_cmp x y) (ordering_then (nat_cmp u v) o) ≡ ordering_then (nat_cmp p q) o
by_parts x y u v p q o s = elim (three x y) [ inl lt ↦ rw (less x y lt, less p q (s.higher lt)) refl | inr rest ↦ rest_of rest ]
  where
    rest_of : ((x ≡ y) ⊎ (y < x)) → ordering_then (nat_cmp x y) (ordering_then (nat_cmp u v) o) ≡ ordering_then (nat_cmp p q) o
    rest_of (inl e) = rw (equal x y e) (by_low x y u v p q o s e)
    rest_of (inr gt) = rw (greater x y gt, greater p q (s.lower gt)) refl

tens : (p q : ℕ) → SortBy (p / 10) (q / 10) (p % 10) (q % 10) p q
tens p q = record {
  higher = λ h. omega arith;
  lower = λ h. omega arith;
  then_higher = λ e h. omega arith;
  then_lower = λ e h. omega arith;
  then_same = λ e h. omega arith;
}

years : (i j : ℕ) → SortBy (i / 12) (j / 12) (i % 12 + 1) (j % 12 + 1) i j
years i j = record {
  higher = λ h. omega arith;
  lower = λ h. omega arith;
  then_higher = λ e h. omega arith;
  then_lower = λ e h. omega arith;
  then_same = λ e h. omega arith;
}

earlier : (a b : ℕ) (place later : ℕ × ℕ) → IsPlace all_months a place → IsPlace all_months b later → place.0 < later.0 → a < b
earlier a b place later p l h =
    let before = before_later all_months place.0 later.0 place.1 h p.day in
    let is = p.number_is in
    let other = l.number_is in
    omega arith

same_month : (a b : ℕ) (place later : ℕ × ℕ) → IsPlace all_months a place → IsPlace all_months b later → place.0 ≡ later.0
    → (a ≡ sum (take later.0 all_months) + place.1) × (b ≡ sum (take later.0 all_months) + later.1)
same_month a b place later p l e = (sym p.number_is ∙ ap (λ (i : ℕ). sum (take i all_months) + place.1) e, sym l.number_is)

places : (a b : ℕ) (place later : ℕ × ℕ) → IsPlace all_months a place → IsPlace all_months b later
    → SortBy place.0 later.0 (place.1 + 1) (later.1 + 1) a b
places a b place later p l = record {
  higher = earlier a b place later p l;
  lower = earlier b a later place l p;
  then_higher = λ e h. let is = same_month a b place later p l e in omega (arith, is.0, is.1);
  then_lower = λ e h. let is = same_month a b place later p l e in omega (arith, is.0, is.1);
  then_same = λ e h. let is = same_month a b place later p l e in omega (arith, is.0, is.1);
}

alone : (o : Ordering) → ordering_then o Equal ≡ o
alone Less = refl
alone Equal = refl
alone Greater = refl

pub dates_sort_as_days : DatesSortAsDays
dates_sort_as_days a b ha hb =
    let place = place_in all_months a in
    let later = place_in all_months b in
    let i = place.0 in
    let j = later.0 in
    let y = i / 12 in
    let z = j / 12 in
    let m = i % 12 + 1 in
    let n = j % 12 + 1 in
    let d = place.1 + 1 in
    let e = later.1 + 1 in
    by_parts (y / 10) (z / 10) (y % 10) (z % 10) y z (slice_cmp nat_cmp (m / 10 ∷ m % 10 ∷ d / 10 ∷ d % 10 ∷ []) (n / 10 ∷ n % 10 ∷ e / 10 ∷ e % 10 ∷ [])) (tens y z)
    ∙ ap (ordering_then (nat_cmp y z))
    (by_parts (m / 10) (n / 10) (m % 10) (n % 10) m n (slice_cmp nat_cmp (d / 10 ∷ d % 10 ∷ []) (e / 10 ∷ e % 10 ∷ [])) (tens m n)
    ∙ ap (ordering_then (nat_cmp m n)) (by_parts (d / 10) (e / 10) (d % 10) (e % 10) d e Equal (tens d e)))
    ∙ by_parts y z m n i j (ordering_then (nat_cmp d e) Equal) (years i j)
    ∙ by_parts i j d e a b Equal (places a b place later (place_of_day a ha) (place_of_day b hb))
    ∙ alone (nat_cmp a b)

shifted : (x y : ℕ) → nat_cmp (48 + x) (48 + y) ≡ nat_cmp x y
shifted x y = elim (three x y) [ inl lt ↦ less (48 + x) (48 + y) (omega arith) ∙ sym (less x y lt) | inr rest ↦ rest_of rest ]
  where
    rest_of : ((x ≡ y) ⊎ (y < x)) → nat_cmp (48 + x) (48 + y) ≡ nat_cmp x y
    rest_of (inl e) = equal (48 + x) (48 + y) (omega arith) ∙ sym (equal x y e)
    rest_of (inr gt) = greater (48 + x) (48 + y) (omega arith) ∙ sym (greater x y gt)

ascii_sorts : (xs ys : List ℕ) → slice_cmp nat_cmp (ascii xs) (ascii ys) ≡ slice_cmp nat_cmp xs ys
ascii_sorts [] [] = refl
ascii_sorts [] (y ∷ ys) = refl
ascii_sorts (x ∷ xs) [] = refl
ascii_sorts (x ∷ xs) (y ∷ ys) = rw (shifted x y, ascii_sorts xs ys) refl

pub texts_sort_as_days : TextsSortAsDays
texts_sort_as_days a b ha hb = ascii_sorts (date_of a) (date_of b) ∙ dates_sort_as_days a b ha hb
