-- What the insert does to the rows.
use Rattle.std.proofs.Common.{◌≡◌, ◌⊎◌, inl, inr, ℕ, ℤ, List, [], ◌∷◌, Bool, true, false, cond, Some, None, Option, Ok, Err, Result, OnOk, refl, ap, subst, ◌∙◌, arith}
use Rattle.std.proofs.lemmas.Bool.{cases_Bool}
use Rattle.sqlite.specs.declared.types.Value.{Value}
use Rattle.sqlite.specs.declared.types.Value.TheVariants.{Null, Int, Blob}
use Rattle.sqlite.specs.Order.{Row}
use Rattle.sqlite.specs.Ops.{unary}
use Rattle.sqlite.specs.Table.{Table}
use Rattle.sqlite.specs.Kind.TheVariants.{Integer}
use Rattle.sqlite.specs.Source.TheVariants.{Values}
use Rattle.sqlite.specs.Command.TheVariants.{Insert}
use Rattle.sqlite.specs.Edit.{Edit, edit_of, edited, at_least, next_rowid}
use Rattle.sqlite.specs.Cast.{cast}
use Rattle.sqlite_schema.specs.declared.schema.Keys.{Keys}
use Rattle.std.specs.Ordering.{is_lt, int_cmp}
use Rattle.sqlite.specs.Rowids.TheVariants.{Above}
use Rattle.sqlite.specs.Does.{Tally, Does}
use Rattle.sqlite.specs.Rows.{Written, Task, Inserts, Counts, CountsIn, Edited, sequence, count_of, counting}
use Rattle.sqlite.specs.Tree.{Trees, put_row}
use Rattle.sqlite_tied.specs.Compute.{everything}
use Rattle.sqlite.specs.declared.error.Error.{Error}
use Rattle.sqlite.specs.Listing.{understood}
use Rattle.sqlite.specs.Effect.{Database}
use Rattle.sqlite.specs.State.{State, mode_of, Executes}
use Rattle.sqlite.proofs.Callers.{IsPlain, statement_of, runs_as, one_step}
use Rattle.keeper_sqlite.specs.Kept.{kept, counters, whole_schema, insert_text, stored, IsPut}
use Rattle.keeper_sqlite.proofs.Compiled.{terms, insert_is}

abbrev pub counted_table : Table
counted_table = record counters { tree = 2 }

pub insert_plain : IsPlain (understood whole_schema insert_text)
unfolding understood everything
insert_plain = (refl, refl)

either : (b : Bool) (x : Value) → cond b x x ≡ x
either true x = refl
either false x = refl

pub cast_null : cast Integer Null ≡ Null
unfolding unary
cast_null = either _ Null

pub cast_int : (z : ℤ) → cast Integer (Int z) ≡ Int z
unfolding unary
cast_int z = either _ (Int z)

pub went : {B E R : Type 0} {b : B} {Stops : E → Type 0} → ((stop : E) × Stops stop × (Ok b ≡ Err stop)) ⊎ R → R
went (inl stopped) = absurd (let e = stopped.2 in cc)
went (inr on) = on

pub same_value : {B E : Type 0} {a b : B} → ◌≡◌ {A = Result B E} (Ok a) (Ok b) → a ≡ b
same_value e = cc

abbrev pub values : ℤ → ℤ → List ℕ → List ℕ → List ℕ → Row
values kind desk holder reference body = Int kind ∷ Int desk ∷ Blob holder ∷ Blob reference ∷ Blob body ∷ []

abbrev pub first_table : Table
first_table = record kept { tree = 0 }

abbrev pub task_of : Option ℕ → Keys → Row → Task
task_of limit keys params = record { limit = limit; keys = keys; schema = whole_schema; table = first_table; params = params }

abbrev source : ℤ → ℤ → List ℕ → List ℕ → List ℕ → Row
source kind desk holder reference body = Null ∷ Null ∷ values kind desk holder reference body

abbrev edit_at : Trees → Option Row → List Row → Edit
edit_at db counter rows = edit_of db first_table [] (Above (count_of counter)) 0 rows

sequence_is : sequence whole_schema ≡ Some counted_table
unfolding everything
sequence_is = refl

-- the count is another table's
counts_apart : (limit : Option ℕ) (keys : Keys) (params : Row) (mid next : Trees) (counter : Option Row) (top : ℤ) → Counts (task_of limit keys params) mid counter top (Ok next) → next 0 ≡ mid 0
counts_apart limit keys params mid next counter top h = elim (cases_Bool (is_lt (int_cmp (count_of counter) top))) [
  | inl more ↦ other counter (subst (λ t. CountsIn (task_of limit keys params) mid counter top t (Ok next)) sequence_is (rw more at h))
  | inr same ↦ ap (λ (t : Trees). t 0) (same_value (rw same at h))
]
  where
    other : (c : Option Row) → Edited whole_schema keys mid (counting mid first_table counted_table top c) (Ok next) → next 0 ≡ mid 0
    other None e = (one_step whole_schema keys mid next (counting mid first_table counted_table top None) refl e).others 0 (λ q. absurd (omega (arith, q))) ((λ q. absurd (omega (arith, q))), tt)
    other (Some r) e = (one_step whole_schema keys mid next (counting mid first_table counted_table top (Some r)) refl e).others 0 (λ q. absurd (omega (arith, q))) ((λ q. absurd (omega (arith, q))), tt)

edited_one : (db : Trees) (counter : Option Row) (kind desk : ℤ) (holder reference body : List ℕ)
    → edited db (edit_at db counter (source kind desk holder reference body ∷ []))
    ≡ put_row (stored (at_least (Above (count_of counter)) (next_rowid (db 0))) kind desk holder reference body) (db 0)
edited_one db counter kind desk holder reference body = rw (cast_null, cast_int kind, cast_int desk) refl

inserted : (limit : Option ℕ) (keys : Keys) (db : Trees) (kind desk : ℤ) (holder reference body : List ℕ) (w : Written) → Inserts (task_of limit keys (values kind desk holder reference body)) (Values terms 7) db (Ok w)
    → (top : ℤ) × (w.trees 0 ≡ put_row (stored (at_least (Above top) (next_rowid (db 0))) kind desk holder reference body) (db 0))
inserted limit keys db kind desk holder reference body w h =
    let params = values kind desk holder reference body in
    let given = went h in
    let counter = went given.2 in
    let written = went counter.2 in
    let counted = went written.2 in
    let trees : w.trees ≡ counted.0 = ap (λ (it : Written). it.trees) (same_value counted.2) in
    let rows : given.0 ≡ source kind desk holder reference body ∷ [] = given.1.1 in
    let apart : counted.0 0 ≡ written.0 0 = counts_apart limit keys params written.0 counted.0 counter.0 _ counted.1 in
    let step = (one_step whole_schema keys db written.0 (edit_at db counter.0 given.0) refl written.1).rows in
    let edit : edited db (edit_at db counter.0 given.0) ≡ _ = ap (λ all. edited db (edit_at db counter.0 all)) rows ∙ edited_one db counter.0 kind desk holder reference body in
    (count_of counter.0, ap (λ (t : Trees). t 0) trees ∙ apart ∙ step ∙ edit)

pub adds : (old new : State) (kind desk : ℤ) (holder reference body : List ℕ) (r : Result ℕ Error) → old.now.schema ≡ whole_schema → Executes insert_text (values kind desk holder reference body) old new r
    → OnOk r (IsPut kind desk holder reference body old.now new.now)
adds old new kind desk holder reference body (Err e) has h = tt
adds old new kind desk holder reference body (Ok count) has h =
    let params = values kind desk holder reference body in
    let command = Insert 0 (Values terms 7) in
    let w = runs_as insert_text params old new whole_schema has command insert_is insert_plain count h in
    let text = statement_of insert_text (understood whole_schema insert_text) in
    let done = went (subst (λ s. Does old.step_limit (mode_of old) params (record old.now { schema = s }) text None command (Ok (w.tally, new.now))) has w.changed) in
    let now = ap (λ (p : Tally × Database). p.1) (same_value (went (went done.2).2).2) in
    let put = inserted old.step_limit (mode_of old).keys old.now.trees kind desk holder reference body done.0 done.1 in
    record { schema = ap (λ (d : Database). d.schema) now; top = put.0; rows = ap (λ (d : Database). d.trees 0) now ∙ put.1 }
