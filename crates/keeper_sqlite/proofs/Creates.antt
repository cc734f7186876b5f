-- What the making of the table leaves.
use Rattle.std.proofs.Common.{◌≡◌, ◌⊎◌, inl, inr, ℕ, [], true, false, None, Ok, Err, Result, OnOk, refl, sym, ap, subst, ◌∙◌}
use Rattle.sqlite.specs.Schema.{Schema}
use Rattle.sqlite.specs.Command.TheVariants.{CreateTable}
use Rattle.sqlite.specs.Change.{created, next_tree, KeepsRows}
use Rattle.sqlite.specs.Does.{Tally, lacks_sequence, MakesTable, MakesSequence, sequence_text}
use Rattle.sqlite.specs.Rows.{Then}
use Rattle.sqlite_tied.specs.Compute.{everything}
use Rattle.sqlite.specs.declared.error.Error.{Error}
use Rattle.sqlite.specs.Listing.{understood}
use Rattle.sqlite.specs.Effect.{Database}
use Rattle.sqlite.specs.State.{State, Writes, Executes}
use Rattle.sqlite.proofs.Callers.{IsPlain, statement_of, runs_as}
use Rattle.keeper_sqlite.specs.Kept.{kept, counters, no_schema, whole_schema, create_text, IsMade, HoldsRows}
use Rattle.keeper_sqlite.proofs.Compiled.{create_is, defines, defines_counters}

create_plain : IsPlain (understood no_schema create_text)
unfolding understood everything
create_plain = (refl, refl)

create_statement : statement_of create_text (understood no_schema create_text) ≡ create_text
unfolding understood everything
create_statement = refl

lacks : lacks_sequence (created no_schema kept) ≡ true
unfolding everything
lacks = refl

went : {B E R : Type 0} {b : B} {Stops : E → Type 0} → ((stop : E) × Stops stop × (Ok b ≡ Err stop)) ⊎ R → R
went (inl stopped) = absurd (let e = stopped.2 in cc)
went (inr on) = on

same_value : {B E : Type 0} {a b : B} → ◌≡◌ {A = Result B E} (Ok a) (Ok b) → a ≡ b
same_value e = cc

same_ok : {B E : Type 0} {a b : B} {r : Result B E} → r ≡ Ok a → r ≡ Ok b → a ≡ b
same_ok p q = same_value (sym p ∙ q)

-- the two tables in turn
makes : (db mid after : Database) → db.schema ≡ no_schema → MakesTable create_text db (Ok mid) → MakesTable sequence_text mid (Ok after) → mid.schema ≡ created no_schema kept → IsMade after
makes db mid after has made second known =
    let first : made.table ≡ kept = same_ok made.defined defines in
    let next : second.table ≡ counters = same_ok second.defined defines_counters in
    let whole : after.schema ≡ whole_schema = second.is ∙ ap (λ s. created s second.table) known ∙ ap (created (created no_schema kept)) next in
    let empty : mid.trees 0 ≡ [] = subst (λ s. mid.trees (next_tree s) ≡ []) has made.empty in
    let same : after.trees 0 ≡ mid.trees 0 = (subst (λ (s : Schema). KeepsRows s.tables mid.trees after.trees) known second.others).0 in
    record { schema = whole; rows = same ∙ empty }

after_first : (db mid : Database) → db.schema ≡ no_schema → MakesTable create_text db (Ok mid) → mid.schema ≡ created no_schema kept
after_first db mid has made =
    let first : made.table ≡ kept = same_ok made.defined defines in
    made.is ∙ ap (λ s. created s made.table) has ∙ ap (created no_schema) first

both : (db after : Database) → db.schema ≡ no_schema → Then (MakesTable create_text db) MakesSequence (Ok after) → IsMade after
both db after has h =
    let first = went h in
    let known = after_first db first.0 has first.1 in
    let lacking : lacks_sequence first.0.schema ≡ true = ap lacks_sequence known ∙ lacks in
    makes db first.0 after has first.1 (rw lacking at first.2) known

pub creates : (old new : State) (r : Result ℕ Error) → old.now.schema ≡ no_schema → Executes create_text [] old new r → OnOk r (IsMade new.now)
creates old new (Err e) has h = tt
creates old new (Ok count) has h =
    let w = subst (λ t. Writes old new None CreateTable t [] count) create_statement (runs_as create_text [] old new no_schema has CreateTable create_is create_plain count h) in
    let all = went w.changed in
    let now : new.now ≡ all.0 = ap (λ (p : Tally × Database). p.1) (same_value all.2) in
    subst IsMade (sym now) (both old.now all.0 has all.1)

-- the table is there, committed and without a row
pub holds_none : (old new : State) (r : Result ℕ Error) → old.now.schema ≡ no_schema → old.in_transaction ≡ false → Executes create_text [] old new r → OnOk r (HoldsRows [] new)
holds_none old new (Err e) has mode h = tt
holds_none old new (Ok count) has mode h =
    let made = creates old new (Ok count) has h in
    let w = runs_as create_text [] old new no_schema has CreateTable create_is create_plain count h in
    let settled : new.committed ≡ new.now = w.shown.committed_is ∙ rw mode refl in
    record {
      autocommit = w.shown.mode ∙ mode;
      schema = ap (λ (d : Database). d.schema) settled ∙ made.schema;
      settled = ap (λ (d : Database). d.trees 0) settled;
      kept = record { schema = made.schema; rows = made.rows; keyed = tt };
    }
