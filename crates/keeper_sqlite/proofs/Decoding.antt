-- Rows of the table read back, and what is found among them by a key.
use Rattle.std.proofs.Common.{◌≡◌, ℕ, ℤ, pos, negsuc, List, [], ◌∷◌, ◌++◌, ◌&&◌, ◌<ℤ◌, map, filter, Bool, true, false, cond, Option, Some, None, refl, sym, ap, subst, ◌∙◌, arith, nat_eq, eq-eqb, true≢false, ◌⊎◌, inl, inr}
use Rattle.std.proofs.lemmas.Bool.{eqb-true}
use Rattle.std.proofs.lemmas.Int.{ints}
use Rattle.std.proofs.lemmas.Map.Text.{is_eq-slice_cmp}
use Rattle.std.specs.List.{list_all, AllByRecursion}
use Rattle.std.specs.Str.{bytes_eq}
use Rattle.std.specs.Ordering.{int_cmp, int_eq, is_lt}
use Rattle.eac_base.specs.Answers.{◌gives◌}
use Rattle.eac_base.proofs.EqualBytes.{bytes_eq-true, bytes_eq-self}
use Rattle.sqlite.specs.declared.types.Value.{Value}
use Rattle.sqlite.specs.declared.types.Value.TheVariants.{Null, Int, Real, Text, Blob}
use Rattle.sqlite.specs.Order.{Row as SqlRow}
use Rattle.sqlite_keyed.specs.Keyed.{IsKeyedBy}
use Rattle.sqlite_keyed.proofs.KeyedLemmas.{same_int}
use Rattle.holder_reference.specs.Reference.{holder_part}
use Rattle.keeper.specs.declared.rows.Row.{Row}
use Rattle.keeper.specs.declared.rows.Table.{Table}
use Rattle.keeper.specs.declared.rows.Table.TheVariants as tables
use Rattle.keeper.specs.Rows.{table_of, kind_of, has_key, row_at, UniqueKeys}
use Rattle.keeper.proofs.UniqueRows.{and_parts, unique_parts, here_none}
use Rattle.keeper.proofs.SettledRows.{same_key}
use Rattle.keeper_sqlite.specs.ReadingOrder.{read_stored}
use Rattle.keeper_sqlite.specs.Kept.{Entry, encode, is_row}
use Rattle.keeper_sqlite.proofs.Options.{some_gives, some_is, some_if}
use Rattle.keeper_sqlite.specs.ToldRows.{int_in, nat_in, bytes_in, null_in, fields_in, entry_in, onto, entries_in, rise, part_in, row_of_part, row_for, rows_for, StoredAs, Stores}

some_onto : {A : Type 0} (o : Option A) (l : Option (List A)) (ys : List A) → onto o l ≡ Some ys → (x : A) × (xs : List A) × (o ≡ Some x) × (l ≡ Some xs) × (x ∷ xs ≡ ys)
some_onto None l ys e = absurd cc
some_onto (Some x) None ys e = absurd cc
some_onto (Some x) (Some xs) ys e = (x, xs, refl, refl, cc)

int_is : (v : Value) (z : ℤ) → int_in v ≡ Some z → v ≡ Int z
int_is (Int y) z e = ap Int (some_is y z e)
int_is Null z e = absurd cc
int_is (Real r) z e = absurd cc
int_is (Text t) z e = absurd cc
int_is (Blob b) z e = absurd cc

nat_is : (v : Value) (n : ℕ) → nat_in v ≡ Some n → v ≡ Int (pos n)
nat_is (Int (pos m)) n e = ap (λ k. Int (pos k)) (some_is m n e)
nat_is (Int (negsuc m)) n e = absurd cc
nat_is Null n e = absurd cc
nat_is (Real r) n e = absurd cc
nat_is (Text t) n e = absurd cc
nat_is (Blob b) n e = absurd cc

bytes_is : (v : Value) (xs : List ℕ) → bytes_in v ≡ Some xs → v ≡ Blob xs
bytes_is (Blob b) xs e = ap Blob (some_is b xs e)
bytes_is Null xs e = absurd cc
bytes_is (Int z) xs e = absurd cc
bytes_is (Real r) xs e = absurd cc
bytes_is (Text t) xs e = absurd cc

null_is : (v : Value) (u : Unit {0}) → null_in v ≡ Some u → v ≡ Null
null_is Null u e = refl
null_is (Int z) u e = absurd cc
null_is (Real r) u e = absurd cc
null_is (Text t) u e = absurd cc
null_is (Blob b) u e = absurd cc

fields_are : (a b c d e f g : Value) (x : Entry) → fields_in a b c d e f g ≡ Some x → a ∷ b ∷ c ∷ d ∷ e ∷ f ∷ g ∷ [] ≡ encode x
fields_are a b c d e f g x h =
    let p = some_gives (int_in a) _ x h in
    let q = some_gives (null_in b) _ x p.2 in
    let r = some_gives (nat_in c) _ x q.2 in
    let s = some_gives (nat_in d) _ x r.2 in
    let t = some_gives (bytes_in e) _ x s.2 in
    let u = some_gives (bytes_in f) _ x t.2 in
    let v = some_gives (bytes_in g) _ x u.2 in
    (λ i. int_is a p.0 p.1 i ∷ null_is b q.0 q.1 i ∷ nat_is c r.0 r.1 i ∷ nat_is d s.0 s.1 i ∷ bytes_is e t.0 t.1 i ∷ bytes_is f u.0 u.1 i ∷ bytes_is g v.0 v.1 i ∷ [])
    ∙ ap encode (some_is _ x v.2)

entry_is : (r : SqlRow) (x : Entry) → entry_in r ≡ Some x → r ≡ encode x
entry_is [] x h = absurd cc
entry_is (a ∷ []) x h = absurd cc
entry_is (a ∷ b ∷ []) x h = absurd cc
entry_is (a ∷ b ∷ c ∷ []) x h = absurd cc
entry_is (a ∷ b ∷ c ∷ d ∷ []) x h = absurd cc
entry_is (a ∷ b ∷ c ∷ d ∷ e ∷ []) x h = absurd cc
entry_is (a ∷ b ∷ c ∷ d ∷ e ∷ f ∷ []) x h = absurd cc
entry_is (a ∷ b ∷ c ∷ d ∷ e ∷ f ∷ g ∷ []) x h = fields_are a b c d e f g x h
entry_is (a ∷ b ∷ c ∷ d ∷ e ∷ f ∷ g ∷ y ∷ more) x h = absurd cc

pub entries_are : (rs : List SqlRow) (es : List Entry) → entries_in rs ≡ Some es → rs ≡ map encode es
entries_are [] es h = subst (λ l. [] ≡ map encode l) (some_is [] es h) refl
entries_are (r ∷ rs) es h =
    let p = some_onto (entry_in r) (entries_in rs) es h in
    (λ i. entry_is r p.0 p.2 i ∷ entries_are rs p.1 p.3 i) ∙ ap (map encode) p.4

pub entries_again : (es : List Entry) → entries_in (map encode es) ≡ Some es
entries_again [] = refl
entries_again (e ∷ es) = ap (onto (Some e)) (entries_again es)

-- ---- places

less_is : (a b : ℤ) → is_lt (int_cmp a b) ≡ true → a <ℤ b
less_is a b h = grind (arith, ints)

is_less : (a b : ℤ) → a <ℤ b → is_lt (int_cmp a b) ≡ true
is_less a b h = grind (arith, ints)

all_below : (z : ℤ) (es : List Entry) → list_all (λ (x : Entry). is_lt (int_cmp z x.place)) es ≡ true → AllByRecursion (λ (x : Entry). z <ℤ x.place) es
all_below z [] h = tt
all_below z (e ∷ es) h = let p = and_parts _ _ h in (less_is z e.place p.0, all_below z es p.1)

below_all : (z : ℤ) (es : List Entry) → AllByRecursion (λ (x : Entry). z <ℤ x.place) es → list_all (λ (x : Entry). is_lt (int_cmp z x.place)) es ≡ true
below_all z [] h = refl
below_all z (e ∷ es) h = rw (is_less z e.place h.0) (below_all z es h.1)

pub rise_keyed : (es : List Entry) → rise es ≡ true → IsKeyedBy (λ (e : Entry). e.place) es
rise_keyed [] h = tt
rise_keyed (e ∷ es) h = let p = and_parts _ _ h in (all_below e.place es p.0, rise_keyed es p.1)

pub keyed_rise : (es : List Entry) → IsKeyedBy (λ (e : Entry). e.place) es → rise es ≡ true
keyed_rise [] h = refl
keyed_rise (e ∷ es) h = rw (below_all e.place es h.0) (keyed_rise es h.1)

-- ---- rows

pub part_of_kind : (t : Table) (body : List ℕ) → part_in (kind_of t) body ≡ read_stored t body
part_of_kind tables.Register body = refl
part_of_kind tables.Issued body = refl
part_of_kind tables.Own body = refl
part_of_kind tables.Ca body = refl

pub row_stored : (e : Entry) (row : Row) → row_for e ≡ Some row → StoredAs e row
row_stored e row h =
    let p = some_gives (part_in e.kind e.body) (row_of_part e) row h in
    let q = some_if (nat_eq (kind_of (table_of p.0)) e.kind && bytes_eq e.holder (holder_part e.reference)) _ row p.2 in
    let t = and_parts _ _ q.0 in
    let kind : kind_of (table_of p.0) ≡ e.kind = eqb-true (kind_of (table_of p.0)) e.kind t.0 in
    subst (StoredAs e) q.1 (record {
      kind = sym kind;
      desk = refl;
      holder = bytes_eq-true e.holder (holder_part e.reference) t.1;
      reference = refl;
      body = sym (part_of_kind (table_of p.0) e.body) ∙ ap (λ k. part_in k e.body) kind ∙ p.1;
    })

pub stored_row : (e : Entry) (row : Row) → StoredAs e row → row_for e ≡ Some row
stored_row e row s =
    let part : part_in e.kind e.body ≡ Some row.part = ap (λ k. part_in k e.body) s.kind ∙ part_of_kind (table_of row.part) e.body ∙ s.body in
    let kind : nat_eq (kind_of (table_of row.part)) e.kind ≡ true = eq-eqb (kind_of (table_of row.part)) e.kind (sym s.kind) in
    let holder : bytes_eq e.holder (holder_part e.reference) ≡ true = ap (λ l. bytes_eq l (holder_part e.reference)) (s.holder ∙ ap holder_part (sym s.reference)) ∙ bytes_eq-self (holder_part e.reference) in
    ap (λ o. o gives row_of_part e) part ∙ rw (kind, holder) (λ i. Some (record { desk = s.desk i; reference = s.reference i; part = row.part }))

pub rows_stored : (es : List Entry) (rows : List Row) → rows_for es ≡ Some rows → Stores es rows
rows_stored [] rows h = subst (Stores []) (some_is [] rows h) tt
rows_stored (e ∷ es) rows h =
    let p = some_onto (row_for e) (rows_for es) rows h in
    subst (Stores (e ∷ es)) p.4 (row_stored e p.0 p.2, rows_stored es p.1 p.3)

pub stored_rows : (es : List Entry) (rows : List Row) → Stores es rows → rows_for es ≡ Some rows
stored_rows [] [] s = refl
stored_rows (e ∷ es) (row ∷ rows) s = (λ i. onto (stored_row e row s.0 i) (stored_rows es rows s.1 i))
stored_rows [] (row ∷ rows) s = absurd s
stored_rows (e ∷ es) [] s = absurd s

pub stores_more : (es : List Entry) (rows : List Row) (e : Entry) (row : Row) → Stores es rows → StoredAs e row → Stores (es ++ e ∷ []) (rows ++ row ∷ [])
stores_more [] [] e row s t = (t, tt)
stores_more (x ∷ es) (y ∷ rows) e row s t = (s.0, stores_more es rows e row s.1 t)
stores_more [] (y ∷ rows) e row s t = absurd s
stores_more (x ∷ es) [] e row s t = absurd s

-- ---- looking up

tell_both : (a b : Bool) → (a ≡ true → b ≡ true) → (b ≡ true → a ≡ true) → a ≡ b
tell_both true b f g = sym (f refl)
tell_both false true f g = g refl
tell_both false false f g = refl

int_self : (n : ℕ) → int_eq (pos n) (pos n) ≡ true
int_self n = grind (arith, ints)

pos_is : (a b : ℕ) → pos a ≡ pos b → a ≡ b
pos_is a b e = cc

pub same_number : (a b : ℕ) → int_eq (pos a) (pos b) ≡ nat_eq a b
same_number a b = tell_both (int_eq (pos a) (pos b)) (nat_eq a b) (λ e. eq-eqb a b (pos_is a b (same_int (pos a) (pos b) e))) (λ e. subst (λ n. int_eq (pos a) (pos n) ≡ true) (eqb-true a b e) (int_self a))

pub and_of : (a b c : Bool) → a && (b && c) ≡ (a && b) && c
and_of true b c = refl
and_of false b c = refl

pub key_is : (e : Entry) (row : Row) (t : Table) (desk : ℕ) (reference : List ℕ) → StoredAs e row → is_row (kind_of t) desk reference e ≡ has_key t desk reference row
key_is e row t desk reference s =
    (λ i. same_number e.kind (kind_of t) i && (same_number e.desk desk i && is_eq-slice_cmp e.reference reference i))
    ∙ (λ i. nat_eq (s.kind i) (kind_of t) && (nat_eq (s.desk i) desk && bytes_eq (s.reference i) reference))
    ∙ and_of (nat_eq (kind_of (table_of row.part)) (kind_of t)) (nat_eq row.desk desk) (bytes_eq row.reference reference)

pub passes : (b : Bool) (e : Entry) (rest : List Entry) → b ≡ false → cond b (e ∷ rest) rest ≡ rest
passes true e rest h = absurd (true≢false h)
passes false e rest h = refl

pub takes : (b : Bool) (e : Entry) (rest : List Entry) → b ≡ true → cond b (e ∷ rest) rest ≡ e ∷ rest
takes true e rest h = refl
takes false e rest h = absurd (true≢false (sym h))

pub here_or : (b : Bool) (row : Row) (rest : Option Row) (r : Row) → cond b (Some row) rest ≡ Some r → ((b ≡ true) × (row ≡ r)) ⊎ ((b ≡ false) × (rest ≡ Some r))
here_or true row rest r h = inl (refl, some_is row r h)
here_or false row rest r h = inr (refl, h)

-- where no row has the key, no entry has it
pub found_none : (es : List Entry) (rows : List Row) (t : Table) (desk : ℕ) (reference : List ℕ) → Stores es rows → row_at t desk reference rows ≡ None → filter (is_row (kind_of t) desk reference) es ≡ []
found_none [] [] t desk reference s h = refl
found_none (e ∷ es) (row ∷ rows) t desk reference s h =
    let p = here_none (has_key t desk reference row) row (row_at t desk reference rows) h in
    let test : is_row (kind_of t) desk reference e ≡ false = key_is e row t desk reference s.0 ∙ p.0 in
    passes (is_row (kind_of t) desk reference e) e (filter (is_row (kind_of t) desk reference) es) test ∙ found_none es rows t desk reference s.1 p.1
found_none [] (row ∷ rows) t desk reference s h = absurd s
found_none (e ∷ es) [] t desk reference s h = absurd s

-- the row of the key is stored by the one entry of the key
pub found_one : (es : List Entry) (rows : List Row) (t : Table) (desk : ℕ) (reference : List ℕ) (r : Row) → Stores es rows → UniqueKeys rows → row_at t desk reference rows ≡ Some r
    → (e : Entry) × (filter (is_row (kind_of t) desk reference) es ≡ e ∷ []) × StoredAs e r × (has_key t desk reference r ≡ true)
found_one [] [] t desk reference r s u h = absurd cc
found_one (e ∷ es) (row ∷ rows) t desk reference r s u h =
    let others = unique_parts row rows u in
    let rest = filter (is_row (kind_of t) desk reference) es in
    elim (here_or (has_key t desk reference row) row (row_at t desk reference rows) r h) [
      | inl here ↦ (
        e,
        takes (is_row (kind_of t) desk reference e) e rest (key_is e row t desk reference s.0 ∙ here.0)
            ∙ ap (λ l. e ∷ l) (found_none es rows t desk reference s.1 (sym (same_key t desk reference row here.0 rows) ∙ others.0)),
        subst (StoredAs e) here.1 s.0,
        ap (has_key t desk reference) (sym here.1) ∙ here.0,
      )
      | inr later ↦ (let more = found_one es rows t desk reference r s.1 others.1 later.1 in
          (more.0, passes (is_row (kind_of t) desk reference e) e rest (key_is e row t desk reference s.0 ∙ later.0) ∙ more.1, more.2, more.3))
    ]
found_one [] (row ∷ rows) t desk reference r s u h = absurd s
found_one (e ∷ es) [] t desk reference r s u h = absurd s

-- what is stored of a table is read of it
pub stored_of : (e : Entry) (r : Row) (t : Table) (desk : ℕ) (reference : List ℕ) → StoredAs e r → has_key t desk reference r ≡ true → (read_stored t e.body ≡ Some r.part) × (r ≡ record { desk = desk; reference = reference; part = r.part })
stored_of e r t desk reference s key =
    let parts = and_parts (nat_eq (kind_of (table_of r.part)) (kind_of t) && nat_eq r.desk desk) (bytes_eq r.reference reference) key in
    let both = and_parts (nat_eq (kind_of (table_of r.part)) (kind_of t)) (nat_eq r.desk desk) parts.0 in
    let kind : kind_of (table_of r.part) ≡ kind_of t = eqb-true (kind_of (table_of r.part)) (kind_of t) both.0 in (
      sym (part_of_kind t e.body) ∙ ap (λ k. part_in k e.body) (sym kind) ∙ part_of_kind (table_of r.part) e.body ∙ s.body,
      λ i. record { desk = eqb-true r.desk desk both.1 i; reference = bytes_eq-true r.reference reference parts.1 i; part = r.part },
    )
