-- Rows from the last on, and the first row of each reference.
use Rattle.std.proofs.Common.{◌≡◌, ℕ, zero, suc, ◌+◌, ◌<◌, Bool, true, false, cond, List, [], ◌∷◌, length, drop, Option, Some, refl, sym, ap, ◌∙◌, arith, add-one, slice_index_or}
use Rattle.std.specs.Prelude.{slice_get, option_and_then}
use Rattle.std.specs.List.{find}
use Rattle.std.specs.BTreeMap.{BTreeMap, get}
use Rattle.std.proofs.lemmas.Option.{slice_get_read}
use Rattle.std.specs.Prelude.{◌&&◌}
use Rattle.std.specs.Str.{bytes_eq}
use Rattle.std.specs.Ordering.{nat_cmp, is_eq}
use Rattle.std.specs.Cmp.{unsigned_ties}
use Rattle.std.specs.Cmp.Lexicographic.{lists_ties}
use Rattle.keeper.specs.declared.rows.Row.{Row}
use Rattle.keeper.specs.declared.rows.CaPart.{CaPart}
use Rattle.keeper.specs.declared.rows.Part.{Part}
use Rattle.keeper.specs.declared.rows.Part.TheVariants as part
use Rattle.keeper.specs.declared.rows.Table.TheVariants as table
use Rattle.keeper.specs.Rows.{table_of, same_table}
use Rattle.terminal_desk.specs.Chain.{is_authority}
use Rattle.terminal_desk.specs.Walks.{name_cmp, FindsFirst, Enters}

-- ---- the place of a row is kept

tells : (q : List ℕ) (row : Row) (p : CaPart) → row.part ≡ part.Ca p → is_authority q row ≡ is_eq (name_cmp row.reference q)
tells q row p e = ap (λ (x : Part). same_table (table_of x) table.Ca && bytes_eq row.reference q) e ∙ lists_ties nat_cmp unsigned_ties row.reference q

pub entered : (row : Row) (p : CaPart) (place : ℕ) (old new : BTreeMap (List ℕ) ℕ) → row.part ≡ part.Ca p → ((q : List ℕ) → get name_cmp new q ≡ cond (is_eq (name_cmp row.reference q)) (Some place) (get name_cmp old q)) → Enters row place old new
entered row p place old new e updates q = updates q ∙ ap (λ b. cond b (Some place) (get name_cmp old q)) (sym (tells q row p e))

-- ---- along the rows

drop_here : {X : Type 0} (xs : List X) (i : ℕ) (x : X) → i < length xs → x ≡ slice_index_or xs i x → drop i xs ≡ x ∷ drop (suc i) xs
drop_here [] i x within is = absurd (omega arith)
drop_here (y ∷ xs) zero x within is = λ j. sym is j ∷ xs
drop_here (y ∷ xs) (suc i) x within is = drop_here xs i x (omega arith) is

pub drop_next : {X : Type 0} (xs : List X) (i : ℕ) (x : X) → i < length xs → x ≡ slice_index_or xs i x → drop i xs ≡ x ∷ drop (i + 1) xs
drop_next xs i x within is = drop_here xs i x within is ∙ ap (λ n. x ∷ drop n xs) (sym (add-one i))

pick : (rows : List Row) (at : ℕ) (row : Row) (b : Bool) (old : Option ℕ) (rest : Option Row) → slice_get rows at ≡ Some row → option_and_then (slice_get rows) old ≡ rest → option_and_then (slice_get rows) (cond b (Some at) old) ≡ cond b (Some row) rest
pick rows at row true old rest here e = here
pick rows at row false old rest here e = e

-- one row more in front
pub first_more : (rows : List Row) (at : ℕ) (row : Row) (old new : BTreeMap (List ℕ) ℕ) → at < length rows → row ≡ slice_index_or rows at row → Enters row at old new → FindsFirst rows old (drop (at + 1) rows) → FindsFirst rows new (drop at rows)
first_more rows at row old new within is enters first q =
    let here = slice_get_read rows (length rows) at row refl within is in
    ap (option_and_then (slice_get rows)) (enters q)
    ∙ pick rows at row (is_authority q row) (get name_cmp old q) (find (is_authority q) (drop (at + 1) rows)) here (first q)
    ∙ ap (find (is_authority q)) (sym (drop_next rows at row within is))
