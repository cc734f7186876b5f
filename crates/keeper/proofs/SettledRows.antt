-- A settling changes the one row of a key, and keeps what is known of the rows.
use Rattle.std.proofs.Common.{◌≡◌, ⊎_elim, ℕ, suc, ◌+◌, ◌<◌, Bool, true, false, cond, List, [], ◌∷◌, length, Some, None, Ok, Err, refl, sym, ap, ◌∙◌, subst, arith, true≢false, nat_eq, nat_lt}
use Rattle.std.specs.Prelude.{◌&&◌, ◌||◌, not, is_some, slice_set, slice_index_or}
use Rattle.std.specs.List.{All, find, prefix_len, position}
use Rattle.std.specs.Str.{bytes_eq}
use Rattle.std.proofs.lemmas.Bool.{eqb-true, ltb-true, ltb-false}
use Rattle.std.proofs.lemmas.List.Elements.{All-map}
use Rattle.std.proofs.lemmas.List.Folds.{find_at}
use Rattle.std.proofs.lemmas.Option.{slice_get_past}
use Rattle.std.specs.declared.option.Option.{Option}
use Rattle.std.specs.declared.result.Result.{Result}
use Rattle.eac_base.proofs.EqualBytes.{bytes_eq-true}
use Rattle.keeper.specs.declared.rows.Row.{Row}
use Rattle.keeper.specs.declared.rows.Settled.{Settled}
use Rattle.keeper.specs.declared.rows.Part.{Part}
use Rattle.keeper.specs.declared.rows.Part.TheVariants as part
use Rattle.keeper.specs.declared.rows.Table.{Table}
use Rattle.keeper.specs.declared.rows.Table.TheVariants.{Own}
use Rattle.keeper.specs.declared.keeping.KeepRefusal.{KeepRefusal}
use Rattle.keeper.specs.declared.keeping.KeepRefusal.TheVariants.{Failed, Full, Twice, Absent, NoMemory}
use Rattle.keeper.specs.Rows.{table_of, kind_of, same_table, is_of, has_key, row_at, kept_row, settled_part, with_settled, settled_rows, are_unique, UniqueKeys, IsStorableSettled, IsStorablePart, IsStorable}
use Rattle.keeper.specs.Keeping.{MaySettle, Settles}
use Rattle.keeper.proofs.UniqueRows.{and_parts, here_none, unique_parts}

-- ---- one row's key is the other's

keyed : ℕ → ℕ → List ℕ → Row → Bool
keyed kind desk reference row = (nat_eq (kind_of (table_of row.part)) kind && nat_eq row.desk desk) && bytes_eq row.reference reference

-- the row of a key is that of each row that has it
pub same_key : (table : Table) (desk : ℕ) (reference : List ℕ) (row : Row) → has_key table desk reference row ≡ true → (rows : List Row) → kept_row row rows ≡ row_at table desk reference rows
unfolding keyed
same_key table desk reference row e rows =
    let parts = and_parts (is_of table desk row) (bytes_eq row.reference reference) e in
    let both = and_parts (same_table (table_of row.part) table) (nat_eq row.desk desk) parts.0 in
    let kind : kind_of (table_of row.part) ≡ kind_of table = eqb-true (kind_of (table_of row.part)) (kind_of table) both.0 in
    let at_desk : row.desk ≡ desk = eqb-true row.desk desk both.1 in
    let named : row.reference ≡ reference = bytes_eq-true row.reference reference parts.1 in
    λ i. find (keyed (kind i) (at_desk i) (named i)) rows

-- ---- where no row has the key

module _ (desk : ℕ) (reference : List ℕ) (settled : Settled) where
  stays : (b : Bool) (row : Row) (rest new : List Row) → b ≡ false → new ≡ rest → cond b (with_settled settled row) row ∷ new ≡ row ∷ rest
  stays true row rest new e h = absurd (true≢false e)
  stays false row rest new e h = ap (λ l. row ∷ l) h

  pub none_settled : (rows : List Row) → row_at Own desk reference rows ≡ None → settled_rows desk reference settled rows ≡ rows
  none_settled [] e = refl
  none_settled (row ∷ rows) e =
      let h = here_none (has_key Own desk reference row) row (row_at Own desk reference rows) e in
      stays (has_key Own desk reference row) row rows (settled_rows desk reference settled rows) h.0 (none_settled rows h.1)

  -- ---- the first row of the key is the only one

  first : List Row → ℕ
  first rows = prefix_len (λ row. not (has_key Own desk reference row)) rows

  set_step : (b : Bool) (row y d : Row) (rows : List Row) (n : ℕ) → (b ≡ true → settled_rows desk reference settled rows ≡ rows) → (b ≡ false → n < length rows → y ≡ with_settled settled (slice_index_or rows n d) → slice_set rows n y ≡ settled_rows desk reference settled rows) → cond (not b) (1 + n) 0 < suc (length rows) → y ≡ with_settled settled (slice_index_or (row ∷ rows) (cond (not b) (1 + n) 0) d) → slice_set (row ∷ rows) (cond (not b) (1 + n) 0) y ≡ cond b (with_settled settled row) row ∷ settled_rows desk reference settled rows
  set_step true row y d rows n here there within e = λ i. e i ∷ sym (here refl) i
  set_step false row y d rows n here there within e =
      let next : suc n ≡ 1 + n = omega arith in
      subst (λ m. m < suc (length rows) → y ≡ with_settled settled (slice_index_or (row ∷ rows) m d) → slice_set (row ∷ rows) m y ≡ row ∷ settled_rows desk reference settled rows) next (λ within e. ap (λ l. row ∷ l) (there refl (omega (arith, within)) e)) within e

  set_first : (rows : List Row) (y d : Row) → UniqueKeys rows → first rows < length rows → y ≡ with_settled settled (slice_index_or rows (first rows) d) → slice_set rows (first rows) y ≡ settled_rows desk reference settled rows
  unfolding first
  set_first [] y d u within e = absurd (omega (arith, within))
  set_first (row ∷ rows) y d u within e =
      let parts = unique_parts row rows u in
      set_step (has_key Own desk reference row) row y d rows (first rows)
      (λ (is : has_key Own desk reference row ≡ true). none_settled rows (sym (same_key Own desk reference row is rows) ∙ parts.0))
      (λ (not_is : has_key Own desk reference row ≡ false). set_first rows y d parts.1)
      within e

  -- ---- what a look for the place says

  placed : (b : Bool) (n at : ℕ) → cond b (Some n) None ≡ Some at → (b ≡ true) × (n ≡ at)
  placed true n at e = (refl, cc)
  placed false n at e = absurd (cc)

  pub settled_at : (rows : List Row) (found : Option ℕ) (at : ℕ) (y d : Row) → UniqueKeys rows → found ≡ position (has_key Own desk reference) rows → found ≡ Some at → y ≡ with_settled settled (slice_index_or rows at d) → slice_set rows at y ≡ settled_rows desk reference settled rows
  unfolding first
  settled_at rows found at y d u place is e =
      let p = placed (nat_lt (first rows) (length rows)) (first rows) at (sym place ∙ is) in
      ap (λ n. slice_set rows n y) (sym p.1) ∙ set_first rows y d u (ltb-true (first rows) (length rows) p.0) (e ∙ ap (λ n. with_settled settled (slice_index_or rows n d)) (sym p.1))

  no_place : (b : Bool) (n : ℕ) → cond b (Some n) None ≡ None → b ≡ false
  no_place true n e = absurd (cc)
  no_place false n e = refl

  pub settled_nowhere : (rows : List Row) (found : Option ℕ) → found ≡ position (has_key Own desk reference) rows → found ≡ None → rows ≡ settled_rows desk reference settled rows
  unfolding first
  settled_nowhere rows found place none =
      let past = ltb-false (first rows) (length rows) (no_place (nat_lt (first rows) (length rows)) (first rows) (sym place ∙ none)) in
      sym (none_settled rows (find_at (has_key Own desk reference) rows ∙ slice_get_past rows (first rows) past))

  -- ---- keys stay

  abbrev pub now : Row → Row
  now row = cond (has_key Own desk reference row) (with_settled settled row) row

  pub record SameKey (a b : Row) : Type 0 where
    pub table : table_of a.part ≡ table_of b.part
    pub at_desk : a.desk ≡ b.desk
    pub named : a.reference ≡ b.reference

  same_part : (p : Part) → table_of (settled_part settled p) ≡ table_of p
  same_part (part.Register request day) = refl
  same_part (part.Issued p) = refl
  same_part (part.Own p) = refl
  same_part (part.Ca p) = refl

  pub keeps_key : (b : Bool) (row : Row) → SameKey (cond b (with_settled settled row) row) row
  keeps_key true row = record { table = same_part row.part; at_desk = refl; named = refl }
  keeps_key false row = record { table = refl; at_desk = refl; named = refl }

  some_or : (b : Bool) (row : Row) (rest : Option Row) → is_some (cond b (Some row) rest) ≡ (b || is_some rest)
  some_or true row rest = refl
  some_or false row rest = refl

  is_kept : (table : Table) (d : ℕ) (r : List ℕ) (rows : List Row) → is_some (row_at table d r (settled_rows desk reference settled rows)) ≡ is_some (row_at table d r rows)
  is_kept table d r [] = refl
  is_kept table d r (row ∷ rows) =
      let k = keeps_key (has_key Own desk reference row) row in
      some_or (has_key table d r (now row)) (now row) (row_at table d r (settled_rows desk reference settled rows))
      ∙ (λ i. ((same_table (k.table i) table && nat_eq (k.at_desk i) d) && bytes_eq (k.named i) r) || is_kept table d r rows i)
      ∙ sym (some_or (has_key table d r row) row (row_at table d r rows))

  settled_unique : (rows : List Row) → are_unique (settled_rows desk reference settled rows) ≡ are_unique rows
  settled_unique [] = refl
  settled_unique (row ∷ rows) =
      let k = keeps_key (has_key Own desk reference row) row in
      λ i. not (((λ j. is_some (row_at (k.table j) (k.at_desk j) (k.named j) (settled_rows desk reference settled rows))) ∙ is_kept (table_of row.part) row.desk row.reference rows) i) && settled_unique rows i

  -- ---- rows stay storable

  storable_part : (p : Part) → IsStorableSettled settled → IsStorablePart p → IsStorablePart (settled_part settled p)
  storable_part (part.Register request day) s h = h
  storable_part (part.Issued p) s h = h
  storable_part (part.Own p) s h = record { request = h.request; key = h.key; settled = s }
  storable_part (part.Ca p) s h = h

  storable_row : (b : Bool) (row : Row) → IsStorableSettled settled → IsStorable row → IsStorable (cond b (with_settled settled row) row)
  storable_row true row s h = storable_part row.part s h
  storable_row false row s h = h

  all_storable : (rows : List Row) → IsStorableSettled settled → All IsStorable rows → All IsStorable (settled_rows desk reference settled rows)
  all_storable rows s h = All-map IsStorable now rows (λ k d within. storable_row (has_key Own desk reference (slice_index_or rows k d)) (slice_index_or rows k d) s (h k d within))

  -- ---- a call that settles

  -- what holds of the rows, and of the rows with the row settled
  module _ (P : List Row → Type 0) (old : List Row) (k : P old) (l : P (settled_rows desk reference settled old)) where
    pub settles_keeps : {U : Type 0} (new : List Row) (result : Result U KeepRefusal) → Settles old new desk reference settled result → P new
    settles_keeps new (Ok u) h = subst P (sym h.1) l
    settles_keeps new (Err Failed) h = ⊎_elim (λ (e : new ≡ old). subst P (sym e) k) (λ (e : MaySettle old desk reference × (new ≡ settled_rows desk reference settled old)). subst P (sym e.1) l) h
    settles_keeps new (Err Full) h = absurd h
    settles_keeps new (Err (Twice kept)) h = subst P (sym h.0) k
    settles_keeps new (Err Absent) h = subst P (sym h.0) k
    settles_keeps new (Err NoMemory) h = subst P (sym h) k

  pub settles_unique : {U : Type 0} (old new : List Row) (result : Result U KeepRefusal) → UniqueKeys old → Settles old new desk reference settled result → UniqueKeys new
  settles_unique old new result u h = settles_keeps UniqueKeys old u (settled_unique old ∙ u) new result h

  pub settles_storable : {U : Type 0} (old new : List Row) (result : Result U KeepRefusal) → IsStorableSettled settled → All IsStorable old → Settles old new desk reference settled result → All IsStorable new
  settles_storable old new result s a h = settles_keeps (All IsStorable) old a (all_storable old s a) new result h
