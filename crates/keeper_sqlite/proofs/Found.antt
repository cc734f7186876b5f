-- What a look-up for a key gives, on rows.
use Rattle.std.proofs.Common.{Bool, true, ◌&&◌, nat_eq, eq-eqb, ◌≡◌, ℕ, ◌≤◌, List, [], ◌∷◌, length, get_or, drop, arith, Option, Some, None, refl, sym, ap, ◌∙◌}
use Rattle.sqlite.specs.Order.{Row as SqlRow}
use Rattle.keeper.specs.declared.rows.Row.{Row}
use Rattle.keeper.specs.declared.rows.Table.{Table}
use Rattle.std.specs.Str.{bytes_eq}
use Rattle.eac_base.proofs.EqualBytes.{bytes_eq-self}
use Rattle.keeper.specs.Rows.{row_at, kind_of, table_of, is_of, has_key, UniqueKeys}
use Rattle.keeper_sqlite.specs.Kept.{Entry, shown, Looked}
use Rattle.keeper_sqlite.specs.ToldRows.{Stores}
use Rattle.std.specs.Prelude.{IfOk, Result, Ok, Err}
use Rattle.keeper.specs.declared.keeping.KeepRefusal.{KeepRefusal}
use Rattle.keeper.specs.Keeping.{Gives}
use Rattle.keeper_sqlite.specs.Looking.{part_of, IsReadFrom}
use Rattle.keeper_sqlite.proofs.Options.{some_is}
use Rattle.keeper_sqlite.proofs.Decoding.{found_none, found_one, stored_of}

not_both : (x : SqlRow) (xs rows : List SqlRow) → rows ≡ [] → rows ≡ x ∷ xs → ⊥
not_both x xs rows a b = absurd (let e = sym a ∙ b in cc)

first_is : (x y : SqlRow) (xs ys rows : List SqlRow) → rows ≡ x ∷ xs → rows ≡ y ∷ ys → x ≡ y
first_is x y xs ys rows a b = let e : x ∷ xs ≡ y ∷ ys = sym a ∙ b in cc

module _ (entries : List Entry) (rows : List Row) (t : Table) (desk : ℕ) (reference : List ℕ) (items : List SqlRow)
    (stores : Stores entries rows) (unique : UniqueKeys rows) (looked : Looked entries (kind_of t) desk reference items) where
  pub gives_none : (o : Option Row) → row_at t desk reference rows ≡ o → items ≡ [] → None ≡ o
  gives_none None e nothing = refl
  gives_none (Some r) e nothing =
      let one = found_one entries rows t desk reference r stores unique e in
      absurd (not_both (shown one.0) [] items nothing (looked.one one.0 one.1))

  pub gives_some : (o : Option Row) → row_at t desk reference rows ≡ o → (given : SqlRow) (more : List SqlRow) (found : Option Row) → items ≡ given ∷ more → IsReadFrom t desk reference given found → found ≡ o
  gives_some None e given more found some read = absurd (not_both given more items (looked.none (found_none entries rows t desk reference stores e)) some)
  gives_some (Some r) e given more found some read =
      let one = found_one entries rows t desk reference r stores unique e in
      let same : shown one.0 ≡ given = first_is (shown one.0) given [] more items (looked.one one.0 one.1) some in
      let kept = stored_of one.0 r t desk reference one.2 one.3 in
      let part : read.part ≡ r.part = some_is read.part r.part (sym read.reads ∙ ap (part_of t) (sym same) ∙ kept.0) in
      read.is ∙ (λ i. Some (record { desk = desk; reference = reference; part = part i })) ∙ ap (λ (x : Row). Some x) (sym kept.1)

pub cons_of : (xs : List SqlRow) (d : SqlRow) → 1 ≤ length xs → xs ≡ get_or xs 0 d ∷ drop 1 xs
cons_of [] d h = absurd (omega (arith, h))
cons_of (x ∷ xs) d h = refl

pub gives_ok : {T : Type 0} (said : T) (P : T → Type 0) (r : Result T KeepRefusal) → IfOk r P → ((given : T) → P given → given ≡ said) → Gives said r
gives_ok said P (Ok given) h f = f given h
gives_ok said P (Err refusal) h f = tt

-- ---- the keys of rows that are given

both_hold : (a b : Bool) → a ≡ true → b ≡ true → a && b ≡ true
both_hold a b p q = (λ i. p i && b) ∙ q

pub of_asked : (table : Table) (row : Row) → table_of row.part ≡ table → is_of table row.desk row ≡ true
of_asked table row t =
    both_hold (nat_eq (kind_of (table_of row.part)) (kind_of table)) (nat_eq row.desk row.desk) (eq-eqb (kind_of (table_of row.part)) (kind_of table) (ap kind_of t)) (eq-eqb row.desk row.desk refl)

pub key_asked : (table : Table) (row : Row) → table_of row.part ≡ table → has_key table row.desk row.reference row ≡ true
key_asked table row t = both_hold (is_of table row.desk row) (bytes_eq row.reference row.reference) (of_asked table row t) (bytes_eq-self row.reference)
