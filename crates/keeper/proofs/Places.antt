-- Places of the rows that pass, step by step.
use Rattle.std.proofs.Common.{◌≡◌, ℕ, suc, ◌+◌, ◌<◌, ◌≤◌, Bool, true, false, cond, List, [], ◌∷◌, ◌++◌, length, take, None, Some, refl, sym, ap, ◌∙◌, arith, true≢false, nat_eq, nat_lt, slice_index_or, Bor}
use Rattle.std.specs.Prelude.{filter, map, not, slice_get, is_some, IfSome, option_to_list}
use Rattle.std.specs.Option.{option_copied}
use Rattle.std.specs.List.{find, position_or_len, position, filter_map, cons_option}
use Rattle.std.specs.declared.option.Option.{Option}
use Rattle.std.proofs.lemmas.Bool.{ltb-true, ltb-false, lt-ltb, le-ltb, eqb-true, eqb-false}
use Rattle.std.proofs.lemmas.List.{append_assoc, length-append, length-map, take_more}
use Rattle.std.proofs.lemmas.List.Elements.{filter_map-append}
use Rattle.std.proofs.lemmas.List.Folds.{find_at, position_or_len_push}
use Rattle.std.proofs.lemmas.List.Sums.{prefix_len-le-length}
use Rattle.std.proofs.lemmas.Option.{slice_get_past, slice_get-get_or}
use Rattle.keeper.specs.declared.rows.Row.{Row}
use Rattle.keeper.specs.Headings.{places_from, places_of, with_place}
use Rattle.keeper.proofs.UniqueRows.{here_none}

-- ---- rows at places, one after another

one_row : (found : Option Row) → option_to_list found ≡ cons_option found []
one_row None = refl
one_row (Some row) = refl

pub gather_more : (rows : List Row) (places : List ℕ) (i : ℕ) (found more : List Row) → i < length places → found ≡ filter_map (slice_get rows) (take i places) → more ≡ found ++ option_to_list (slice_get rows (slice_index_or places i 0)) → more ≡ filter_map (slice_get rows) (take (i + 1) places)
gather_more rows places i found more within e push =
    let place = slice_index_or places i 0 in
    push ∙ (λ j. e j ++ one_row (slice_get rows place) j) ∙ sym (filter_map-append (slice_get rows) (take i places) (place ∷ [])) ∙ ap (filter_map (slice_get rows)) (sym (take_more places i 0 within))

-- a lent row is the one at its place
pub lent_at : (rows : List Row) (at : ℕ) (lent : Option (Bor Row)) → is_some lent ≡ nat_lt at (length rows) → IfSome lent (λ row. row.now ≡ slice_index_or rows at row.now) → option_copied lent ≡ slice_get rows at
lent_at rows at None some is = sym (slice_get_past rows at (ltb-false at (length rows) (sym some)))
lent_at rows at (Some row) some is = sym (slice_get-get_or rows at row.now (ltb-true at (length rows) (sym some)) ∙ ap Some (sym is))

module _ (p : Row → Bool) where
  -- ---- one row more

  more_step : (a b : Bool) (n m k : ℕ) (P Q : List ℕ) → Q ≡ cond b (with_place m P) P → m ≡ k → cond a (n ∷ Q) Q ≡ cond b (with_place k (cond a (n ∷ P) P)) (cond a (n ∷ P) P)
  more_step true true n m k P Q e f = ap (λ l. n ∷ l) (e ∙ ap (λ j. with_place j P) f)
  more_step true false n m k P Q e f = ap (λ l. n ∷ l) e
  more_step false true n m k P Q e f = e ∙ ap (λ j. with_place j P) f
  more_step false false n m k P Q e f = e

  more_from : (n : ℕ) (rows : List Row) (row : Row) → places_from p n (rows ++ row ∷ []) ≡ cond (p row) (with_place (n + length rows) (places_from p n rows)) (places_from p n rows)
  more_from n [] row = let same : n ≡ n + 0 = omega arith in ap (λ k. cond (p row) (k ∷ []) []) same
  more_from n (r ∷ rs) row =
      let later : n + 1 + length rs ≡ n + length (r ∷ rs) = omega arith in
      more_step (p r) (p row) n (n + 1 + length rs) (n + length (r ∷ rs)) (places_from p (n + 1) rs) (places_from p (n + 1) (rs ++ row ∷ [])) (more_from (n + 1) rs row) later

  pub places_more : (rows : List Row) (row : Row) (place : ℕ) → place ≡ length rows → places_of p (rows ++ row ∷ []) ≡ cond (p row) (with_place place (places_of p rows)) (places_of p rows)
  places_more rows row place e =
      let last : 0 + length rows ≡ place = omega (arith, e) in
      more_from 0 rows row ∙ ap (λ k. cond (p row) (with_place k (places_of p rows)) (places_of p rows)) last

  -- ---- the rows at the places

  here : (before rows : List Row) (row : Row) → slice_get (before ++ row ∷ rows) (length before) ≡ Some row
  here [] rows row = refl
  here (r ∷ rs) rows row = here rs rows row

  gather_step : (b : Bool) (g : ℕ → Option Row) (n : ℕ) (rest : List ℕ) (row : Row) (rows : List Row) → g n ≡ Some row → filter_map g rest ≡ rows → filter_map g (cond b (n ∷ rest) rest) ≡ cond b (row ∷ rows) rows
  gather_step true g n rest row rows e h = λ i. cons_option (e i) (h i)
  gather_step false g n rest row rows e h = h

  gather : (before rows : List Row) → filter_map (slice_get (before ++ rows)) (places_from p (length before) rows) ≡ filter p rows
  gather before [] = refl
  gather before (row ∷ rows) =
      let longer : length before + 1 ≡ length (before ++ row ∷ []) = sym (length-append before (row ∷ [])) in
      gather_step (p row) (slice_get (before ++ row ∷ rows)) (length before) (places_from p (length before + 1) rows) row (filter p rows) (here before rows row)
      ((λ i. filter_map (slice_get (sym (append_assoc before (row ∷ []) rows) i)) (places_from p (longer i) rows)) ∙ gather (before ++ row ∷ []) rows)

  pub rows_at_places : (rows : List Row) → filter_map (slice_get rows) (places_of p rows) ≡ filter p rows
  rows_at_places rows = gather [] rows

  -- ---- how many

  count_step : (b : Bool) (n : ℕ) (row : Row) (places : List ℕ) (rows : List Row) → length places ≡ length rows → length (cond b (n ∷ places) places) ≡ length (cond b (row ∷ rows) rows)
  count_step true n row places rows e = ap suc e
  count_step false n row places rows e = e

  counted : (n : ℕ) (rows : List Row) → length (places_from p n rows) ≡ length (filter p rows)
  counted n [] = refl
  counted n (row ∷ rows) = count_step (p row) n row (places_from p (n + 1) rows) (filter p rows) (counted (n + 1) rows)

  pub as_many_places : (rows : List Row) → length (places_of p rows) ≡ length (filter p rows)
  as_many_places rows = counted 0 rows

  -- ---- the first place

  first : List Row → ℕ
  first rows = position_or_len p rows

  placed : (b : Bool) (n at : ℕ) → Some at ≡ cond b (Some n) None → n ≡ at
  placed true n at e = cc
  placed false n at e = absurd (cc)

  pub found_at : (rows : List Row) (at : ℕ) → Some at ≡ position p rows → slice_get rows at ≡ find p rows
  unfolding first
  found_at rows at e = ap (slice_get rows) (sym (placed (nat_lt (first rows) (length rows)) (first rows) at e)) ∙ sym (find_at p rows)

  not_placed : (b : Bool) (n : ℕ) → None ≡ cond b (Some n) None → b ≡ false
  not_placed true n e = absurd (cc)
  not_placed false n e = refl

  pub found_nowhere : (rows : List Row) → None ≡ position p rows → None ≡ find p rows
  unfolding first
  found_nowhere rows e = sym (find_at p rows ∙ slice_get_past rows (first rows) (ltb-false (first rows) (length rows) (not_placed (nat_lt (first rows) (length rows)) (first rows) e)))

  past_step : (b : Bool) (n m : ℕ) → b ≡ false → m ≤ n → suc m ≤ cond (not b) (1 + n) 0
  past_step true n m e h = absurd (true≢false e)
  past_step false n m e h = omega (arith, h)

  past : (rows : List Row) → find p rows ≡ None → length rows ≤ first rows
  unfolding first
  past [] e = omega arith
  past (row ∷ rows) e =
      let h = here_none (p row) row (find p rows) e in
      past_step (p row) (first rows) (length rows) h.0 (past rows h.1)

  pub no_position : (rows : List Row) → find p rows ≡ None → position p rows ≡ None
  unfolding first
  no_position rows e = ap (λ b. cond b (Some (first rows)) None) (le-ltb (first rows) (length rows) (past rows e))

  in_range : (m n : ℕ) → m < n → cond (nat_lt m n) (Some m) None ≡ Some m
  in_range m n h = ap (λ b. cond b (Some m) None) (lt-ltb m n h)

  out_of_range : (m n : ℕ) → n ≤ m → cond (nat_lt m n) (Some m) None ≡ None
  out_of_range m n h = ap (λ b. cond b (Some m) None) (le-ltb m n h)

  below : (m n : ℕ) → m ≤ n → nat_eq m n ≡ false → m < n
  below m n h e = let apart = eqb-false m n e in omega (arith, h, apart)

  position_step : (b e : Bool) (n len m l : ℕ) → n ≤ len → nat_eq n len ≡ e → m ≡ cond e (len + cond b 0 1) n → l ≡ len + 1 → (b ≡ true → cond (nat_lt n len) (Some n) None ≡ None) → cond (nat_lt m l) (Some m) None ≡ cond b (Some len) (cond (nat_lt n len) (Some n) None)
  position_step true true n len m l h ee em el new = let here : m ≡ len = omega (arith, em) in in_range m l (omega (arith, here, el)) ∙ ap Some here
  position_step false true n len m l h ee em el new = let after : m ≡ len + 1 = em in out_of_range m l (omega (arith, after, el)) ∙ sym (out_of_range n len (omega (arith, eqb-true n len ee)))
  position_step true false n len m l h ee em el new = let some : Some n ≡ None = sym (in_range n len (below n len h ee)) ∙ new refl in absurd (cc)
  position_step false false n len m l h ee em el new = let same : m ≡ n = em in in_range m l (omega (arith, same, el, h)) ∙ ap Some same ∙ sym (in_range n len (below n len h ee))

  pub position_more : (rows : List Row) (row : Row) (place : ℕ) → place ≡ length rows → (p row ≡ true → position p rows ≡ None) → position p (rows ++ row ∷ []) ≡ cond (p row) (Some place) (position p rows)
  unfolding first
  position_more rows row place e new =
      position_step (p row) (nat_eq (first rows) (length rows)) (first rows) (length rows) (first (rows ++ row ∷ [])) (length (rows ++ row ∷ [])) (prefix_len-le-length (λ r. not (p r)) rows) refl (position_or_len_push p rows row) (length-append rows (row ∷ [])) new
      ∙ ap (λ k. cond (p row) (Some k) (position p rows)) (sym e)

  -- ---- rows that are changed and pass as before

  module _ (f : Row → Row) (same : (row : Row) → p (f row) ≡ p row) where
    mapped_from : (n : ℕ) (rows : List Row) → places_from p n (map f rows) ≡ places_from p n rows
    mapped_from n [] = refl
    mapped_from n (row ∷ rows) = λ i. cond (same row i) (n ∷ mapped_from (n + 1) rows i) (mapped_from (n + 1) rows i)

    pub places_mapped : (rows : List Row) → places_of p (map f rows) ≡ places_of p rows
    places_mapped rows = mapped_from 0 rows

    first_mapped : (rows : List Row) → first (map f rows) ≡ first rows
    unfolding first
    first_mapped [] = refl
    first_mapped (row ∷ rows) = λ i. cond (not (same row i)) (1 + first_mapped rows i) 0

    pub position_mapped : (rows : List Row) → position p (map f rows) ≡ position p rows
    unfolding first
    position_mapped rows = λ i. cond (nat_lt (first_mapped rows i) (length-map rows f i)) (Some (first_mapped rows i)) None
