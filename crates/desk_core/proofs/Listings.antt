-- The last certificates of rows, row by row.
use Rattle.std.proofs.Common.{◌≡◌, ℕ, zero, suc, ◌+◌, ◌-◌, ◌<◌, ◌≤◌, length, List, [], ◌∷◌, ◌++◌, drop, Option, Some, None, refl, sym, ap, ◌∙◌, arith}
use Rattle.std.specs.Prelude.{slice_get, is_some, true, false}
use Rattle.std.specs.List.{cons_option}
use Rattle.std.proofs.lemmas.List.{append_assoc}
use Rattle.std.proofs.lemmas.List.Elements.{filter_map-append}
use Rattle.std.proofs.lemmas.Option.{slice_get_within, get_or_from_slice_get}
use Rattle.std.proofs.Math.Seq.{drop-cons}
use Rattle.keeper.specs.declared.rows.Row.{Row}
use Rattle.desk_core.specs.Lists.{certificate_in, certificates, last_of}

-- ---- rows from a place on

-- the row at the place, and those behind it
here : {X : Type 0} (xs : List X) (at : ℕ) (x : X) → slice_get xs at ≡ Some x → drop at xs ≡ x ∷ drop (at + 1) xs
here xs at x e =
    let next : suc at ≡ at + 1 = omega arith in
    drop-cons xs at x (slice_get_within xs at x e)
    ∙ ap (λ y. y ∷ drop (suc at) xs) (get_or_from_slice_get xs at x x e)
    ∙ ap (λ n. x ∷ drop n xs) next

-- nothing is behind the last one
none_behind : {X : Type 0} (xs : List X) (at : ℕ) → slice_get xs at ≡ None → drop at xs ≡ []
none_behind [] zero e = refl
none_behind [] (suc at) e = refl
none_behind (x ∷ xs) zero e = absurd (cc)
none_behind (x ∷ xs) (suc at) e = none_behind xs at e

pub with_certificate : (rows : List Row) (at : ℕ) (row : Row) (c : List ℕ) → slice_get rows at ≡ Some row → certificate_in row.part ≡ Some c
    → certificates (drop at rows) ≡ c ∷ certificates (drop (at + 1) rows)
with_certificate rows at row c e is = ap certificates (here rows at row e) ∙ ap (λ found. cons_option found (certificates (drop (at + 1) rows))) is

pub without_certificate : (rows : List Row) (at : ℕ) (row : Row) → slice_get rows at ≡ Some row → certificate_in row.part ≡ None
    → certificates (drop at rows) ≡ certificates (drop (at + 1) rows)
without_certificate rows at row e is = ap certificates (here rows at row e) ∙ ap (λ found. cons_option found (certificates (drop (at + 1) rows))) is

pub no_certificates : (rows : List Row) (at : ℕ) → slice_get rows at ≡ None → certificates (drop at rows) ≡ []
no_certificates rows at e = ap certificates (none_behind rows at e)

-- ---- the last ones

-- a certificate that is among them
pub kept_more : {X : Type 0} (m : ℕ) (list : List X) (x : X) (xs : List X) → length xs + 1 ≤ m → (list ++ x ∷ []) ++ last_of m xs ≡ list ++ last_of m (x ∷ xs)
kept_more m list x xs most =
    let behind : length xs - m ≡ 0 = omega (arith, most) in
    let whole : length (x ∷ xs) - m ≡ 0 = omega (arith, most) in
    ap (λ n. (list ++ x ∷ []) ++ drop n xs) behind ∙ append_assoc list (x ∷ []) xs ∙ sym (ap (λ n. list ++ drop n (x ∷ xs)) whole)

-- one that isn't
pub passed_over : {X : Type 0} (m : ℕ) (x : X) (xs : List X) → m < length xs + 1 → last_of m xs ≡ last_of m (x ∷ xs)
passed_over m x xs more =
    let one : length (x ∷ xs) - m ≡ suc (length xs - m) = omega (arith, more) in
    sym (ap (λ n. drop n (x ∷ xs)) one)

-- those of rows and of further ones behind them
pub of_both : (front back : List Row) → certificates (front ++ back) ≡ certificates front ++ certificates back
of_both front back = filter_map-append (λ row. certificate_in row.part) front back

-- ---- how many are left from a place on

lengths_by : (rows : List Row) (at : ℕ) (row : Row) (found : Option (List ℕ)) → slice_get rows at ≡ Some row → certificate_in row.part ≡ found
    → length (certificates (drop at rows)) ≡ length (cons_option found (certificates (drop (at + 1) rows)))
lengths_by rows at row found e is = ap length (ap certificates (here rows at row e) ∙ ap (λ f. cons_option f (certificates (drop (at + 1) rows))) is)

module _ (rows : List Row) (at : ℕ) (row : Row) (e : slice_get rows at ≡ Some row) where
  pub one_fewer : (found : Option (List ℕ)) → certificate_in row.part ≡ found → is_some found ≡ true
      → length (certificates (drop at rows)) ≡ length (certificates (drop (at + 1) rows)) + 1
  one_fewer (Some c) is some = let more = lengths_by rows at row (Some c) e is in omega (arith, more)
  one_fewer None is some = absurd (cc)

  pub as_many : (found : Option (List ℕ)) → certificate_in row.part ≡ found → is_some found ≡ false
      → length (certificates (drop at rows)) ≡ length (certificates (drop (at + 1) rows))
  as_many (Some c) is none = absurd (cc)
  as_many None is none = lengths_by rows at row None e is

-- ---- a step of the list: those left, and the ones that are still to be listed

module _ (m : ℕ) (list more whole ys xs : List (List ℕ)) (so_far : list ++ last_of m ys ≡ whole) where
  pub listed_more : (c : List ℕ) → ys ≡ c ∷ xs → length ys ≤ m → more ≡ list ++ c ∷ [] → more ++ last_of m xs ≡ whole
  listed_more c is most pushed =
      let left : length ys ≡ suc (length xs) = ap length is in
      ap (λ l. l ++ last_of m xs) pushed ∙ kept_more m list c xs (omega (arith, most, left)) ∙ ap (λ y. list ++ last_of m y) (sym is) ∙ so_far

  pub listed_past : (c : List ℕ) → ys ≡ c ∷ xs → m < length ys → more ≡ list → more ++ last_of m xs ≡ whole
  listed_past c is past same =
      let left : length ys ≡ suc (length xs) = ap length is in
      ap (λ l. l ++ last_of m xs) same ∙ ap (λ l. list ++ l) (passed_over m c xs (omega (arith, past, left))) ∙ ap (λ y. list ++ last_of m y) (sym is) ∙ so_far

  pub listed_none : ys ≡ xs → more ≡ list → more ++ last_of m xs ≡ whole
  listed_none is same = ap (λ l. l ++ last_of m xs) same ∙ ap (λ y. list ++ last_of m y) (sym is) ∙ so_far
