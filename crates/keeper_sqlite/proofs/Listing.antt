-- Lists of entries, and the rows that they store.
use Rattle.std.proofs.Common.{◌≡◌, ℕ, zero, suc, arith, ◌&&◌, Bool, true, false, cond, List, [], ◌∷◌, ◌++◌, map, filter, length, Option, Some, None, refl, sym, ap, subst, ◌∙◌, nat_eq}
use Rattle.std.specs.Prelude.{option_map}
use Rattle.std.specs.List.{All, AllByRecursion}
use Rattle.std.specs.Str.{bytes_eq}
use Rattle.std.proofs.lemmas.Bool.{eqb-true}
use Rattle.std.proofs.lemmas.Map.Text.{is_eq-slice_cmp}
use Rattle.holder_reference.specs.Reference.{holder_part, is_reference}
use Rattle.sqlite.specs.Order.{Row as SqlRow}
use Rattle.keeper.specs.declared.rows.Row.{Row}
use Rattle.keeper.specs.declared.rows.Part.{Part}
use Rattle.keeper.specs.declared.rows.Table.{Table}
use Rattle.keeper.specs.Rows.{table_of, kind_of, is_of, is_of_holder, rows_of, holder_rows}
use Rattle.keeper.proofs.UniqueRows.{and_parts}
use Rattle.keeper.proofs.Readings.{both_filters}
use Rattle.keeper_sqlite.specs.ReadingOrder.{read_stored}
use Rattle.keeper_sqlite.specs.Kept.{Entry, shown, is_at, is_for}
use Rattle.keeper_sqlite.specs.ToldRows.{part_in, StoredAs, Stores}
use Rattle.keeper_sqlite.specs.Looking.{row_of}
use Rattle.keeper_sqlite.proofs.Options.{some_is, mapped_is}
use Rattle.keeper_sqlite.proofs.Decoding.{same_number, and_of, part_of_kind}

pub desk_is : (e : Entry) (row : Row) (t : Table) (desk : ℕ) → StoredAs e row → is_at (kind_of t) desk e ≡ is_of t desk row
desk_is e row t desk s =
    (λ i. same_number e.kind (kind_of t) i && same_number e.desk desk i) ∙ (λ i. nat_eq (s.kind i) (kind_of t) && nat_eq (s.desk i) desk)

pub for_is : (e : Entry) (row : Row) (t : Table) (desk : ℕ) (holder : List ℕ) → StoredAs e row → is_for (kind_of t) desk holder e ≡ is_of t desk row && is_of_holder holder row
for_is e row t desk holder s =
    (λ i. same_number e.kind (kind_of t) i && (same_number e.desk desk i && is_eq-slice_cmp e.holder holder i))
    ∙ (λ i. nat_eq (s.kind i) (kind_of t) && (nat_eq (s.desk i) desk && bytes_eq (s.holder i) holder))
    ∙ and_of (nat_eq (kind_of (table_of row.part)) (kind_of t)) (nat_eq row.desk desk) (bytes_eq (holder_part row.reference) holder)

-- ---- entries that pass a test, and rows that pass the same

passes_both : (b : Bool) (e : Entry) (row : Row) (es : List Entry) (rows : List Row) → StoredAs e row → Stores es rows → Stores (cond b (e ∷ es) es) (cond b (row ∷ rows) rows)
passes_both true e row es rows s t = (s, t)
passes_both false e row es rows s t = t

pub stores_filter : (p : Entry → Bool) (q : Row → Bool) → ((e : Entry) (row : Row) → StoredAs e row → p e ≡ q row) → (es : List Entry) (rows : List Row) → Stores es rows → Stores (filter p es) (filter q rows)
stores_filter p q same [] [] s = tt
stores_filter p q same (e ∷ es) (row ∷ rows) s =
    subst (λ b. Stores (cond b (e ∷ filter p es) (filter p es)) (cond (q row) (row ∷ filter q rows) (filter q rows))) (sym (same e row s.0))
    (passes_both (q row) e row (filter p es) (filter q rows) s.0 (stores_filter p q same es rows s.1))
stores_filter p q same [] (row ∷ rows) s = absurd s
stores_filter p q same (e ∷ es) [] s = absurd s

pub same_length : (es : List Entry) (rows : List Row) → Stores es rows → length es ≡ length rows
same_length [] [] s = refl
same_length (e ∷ es) (row ∷ rows) s = ap (λ (n : ℕ). suc n) (same_length es rows s.1)
same_length [] (row ∷ rows) s = absurd s
same_length (e ∷ es) [] s = absurd s

passed_step : (b : Bool) (P : Row → Type 0) (row : Row) (rows : List Row) → (b ≡ true → P row) → AllByRecursion P rows → AllByRecursion P (cond b (row ∷ rows) rows)
passed_step true P row rows h k = (h refl, k)
passed_step false P row rows h k = k

passed : (q : Row → Bool) (P : Row → Type 0) → ((row : Row) → q row ≡ true → P row) → (rows : List Row) → AllByRecursion P (filter q rows)
passed q P h [] = tt
passed q P h (row ∷ rows) = passed_step (q row) P row (filter q rows) (h row) (passed q P h rows)

-- ---- rows that were read of what is shown of entries

some_else : {A : Type 0} (b : Bool) (o : Option A) (y : A) → cond b o None ≡ Some y → o ≡ Some y
some_else true o y e = e
some_else false o y e = absurd cc

row_back : (e : Entry) (row found : Row) (t : Table) (desk : ℕ) → StoredAs e row → is_of t desk row ≡ true → row_of t desk (shown e) ≡ Some found → found ≡ row
row_back e row found t desk s of h =
    let made : Part → Row = λ part. record { desk = desk; reference = e.reference; part = part } in
    let read = mapped_is made (read_stored t e.body) found (some_else (is_reference e.reference) (option_map made (read_stored t e.body)) found h) in
    let both = and_parts (nat_eq (kind_of (table_of row.part)) (kind_of t)) (nat_eq row.desk desk) of in
    let kind : kind_of (table_of row.part) ≡ kind_of t = eqb-true (kind_of (table_of row.part)) (kind_of t) both.0 in
    let stored : read_stored t e.body ≡ Some row.part = sym (part_of_kind t e.body) ∙ ap (λ k. part_in k e.body) (sym kind) ∙ part_of_kind (table_of row.part) e.body ∙ s.body in
    let part : read.0 ≡ row.part = some_is read.0 row.part (sym read.1 ∙ stored) in
    let at_desk : desk ≡ row.desk = sym (eqb-true row.desk desk both.1) in
    sym read.2 ∙ (λ i. record { desk = at_desk i; reference = s.reference i; part = part i })

head_is : {A : Type 0} (x y : Option A) (xs ys : List (Option A)) → x ∷ xs ≡ y ∷ ys → x ≡ y
head_is x y xs ys e = cc

tail_is : {A : Type 0} (x y : Option A) (xs ys : List (Option A)) → x ∷ xs ≡ y ∷ ys → xs ≡ ys
tail_is x y xs ys e = cc

pub all_back : (t : Table) (desk : ℕ) (es : List Entry) (rows found : List Row) → Stores es rows → AllByRecursion (λ row. is_of t desk row ≡ true) rows
    → map (row_of t desk) (map shown es) ≡ map (λ (r : Row). Some r) found → found ≡ rows
all_back t desk [] [] [] s of h = refl
all_back t desk [] [] (f ∷ found) s of h = absurd (let e = h in cc)
all_back t desk (e ∷ es) (row ∷ rows) [] s of h = absurd (let e = h in cc)
all_back t desk (e ∷ es) (row ∷ rows) (f ∷ found) s of h =
    let first = row_back e row f t desk s.0 of.0 (head_is (row_of t desk (shown e)) (Some f) (map (row_of t desk) (map shown es)) (map (λ (r : Row). Some r) found) h) in
    let others = all_back t desk es rows found s.1 of.1 (tail_is (row_of t desk (shown e)) (Some f) (map (row_of t desk) (map shown es)) (map (λ (r : Row). Some r) found) h) in
    (λ i. first i ∷ others i)
all_back t desk [] (row ∷ rows) found s of h = absurd s
all_back t desk (e ∷ es) [] found s of h = absurd s

-- ---- the three lists

module _ (es : List Entry) (rows : List Row) (t : Table) (desk : ℕ) (s : Stores es rows) where
  pub of_desk_back : (given : List SqlRow) (found : List Row) → given ≡ map shown (filter (is_at (kind_of t) desk) es) → map (row_of t desk) given ≡ map (λ (r : Row). Some r) found → found ≡ rows_of t desk rows
  of_desk_back given found e h =
      all_back t desk (filter (is_at (kind_of t) desk) es) (rows_of t desk rows) found
      (stores_filter (is_at (kind_of t) desk) (is_of t desk) (λ x y. desk_is x y t desk) es rows s)
      (passed (is_of t desk) (λ row. is_of t desk row ≡ true) (λ row of. of) rows)
      (ap (map (row_of t desk)) (sym e) ∙ h)

  pub of_holder_back : (holder : List ℕ) (given : List SqlRow) (found : List Row) → given ≡ map shown (filter (is_for (kind_of t) desk holder) es) → map (row_of t desk) given ≡ map (λ (r : Row). Some r) found
      → found ≡ holder_rows t desk holder rows
  of_holder_back holder given found e h =
      all_back t desk (filter (is_for (kind_of t) desk holder) es) (filter (λ row. is_of t desk row && is_of_holder holder row) rows) found
      (stores_filter (is_for (kind_of t) desk holder) (λ row. is_of t desk row && is_of_holder holder row) (λ x y. for_is x y t desk holder) es rows s)
      (passed (λ row. is_of t desk row && is_of_holder holder row) (λ row. is_of t desk row ≡ true) (λ row of. (and_parts (is_of t desk row) (is_of_holder holder row) of).0) rows)
      (ap (map (row_of t desk)) (sym e) ∙ h)
      ∙ both_filters t desk holder rows

  pub count_back : length (filter (is_at (kind_of t) desk) es) ≡ length (rows_of t desk rows)
  count_back =
      same_length (filter (is_at (kind_of t) desk) es) (rows_of t desk rows) (stores_filter (is_at (kind_of t) desk) (is_of t desk) (λ x y. desk_is x y t desk) es rows s)

-- ---- one row read after another

map_behind : {A B : Type 0} (f : A → B) (xs : List A) (x : A) → map f (xs ++ x ∷ []) ≡ map f xs ++ f x ∷ []
map_behind f [] x = refl
map_behind f (y ∷ xs) x = ap (λ l. f y ∷ l) (map_behind f xs x)

pub one_more_read : (t : Table) (desk : ℕ) (given next : List SqlRow) (g : SqlRow) (rows : List Row) (row : Row) → next ≡ given ++ g ∷ [] → map (row_of t desk) given ≡ map (λ (r : Row). Some r) rows → row_of t desk g ≡ Some row
    → map (row_of t desk) next ≡ map (λ (r : Row). Some r) (rows ++ row ∷ [])
one_more_read t desk given next g rows row is before now =
    ap (map (row_of t desk)) is ∙ map_behind (row_of t desk) given g ∙ (λ i. before i ++ now i ∷ []) ∙ sym (map_behind (λ (r : Row). Some r) rows row)

pub one_all : (P : Row → Type 0) (row : Row) → P row → All P (row ∷ [])
one_all P row p zero d within = p
one_all P row p (suc k) d within = absurd (omega (arith, within))
