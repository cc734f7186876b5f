-- What an insert leaves of the rows, whatever it answers.
use Rattle.std.proofs.Common.{◌≡◌, ◌⊎◌, inl, inr, ℕ, pos, List, false, Ok, Err, Result, MatchResult, IsTrue, refl, sym, ap, subst, ◌∙◌}
use Rattle.std.proofs.lemmas.Bool.{cases_Bool}
use Rattle.sqlite.specs.Order.{Row}
use Rattle.sqlite.specs.Command.{Command}
use Rattle.sqlite.specs.Command.TheVariants as command
use Rattle.sqlite.specs.Command.TheVariants.{Insert}
use Rattle.sqlite.specs.Source.TheVariants.{Values}
use Rattle.sqlite.specs.declared.error.Error.{Error}
use Rattle.sqlite.specs.Effect.{Database}
use Rattle.sqlite.specs.State.{State, IsUnchanged, IsRolledBack, Runs, shows_rows, ExecutesIn, Executes}
use Rattle.sqlite.proofs.Callers.{runs_as}
use Rattle.sqlite.proofs.InsideLemmas.{fails_whole}
use Rattle.keeper_sqlite.specs.Kept.{Entry, Keeps, HoldsRows, HoldsMore, whole_schema, insert_text}
use Rattle.keeper_sqlite.proofs.Compiled.{terms, insert_is}
use Rattle.keeper_sqlite.proofs.Adds.{adds, values, insert_plain}
use Rattle.keeper_sqlite.proofs.Appends.{appends}

abbrev pub asked : ℕ → ℕ → List ℕ → List ℕ → List ℕ → Row
asked kind desk holder reference body = values (pos kind) (pos desk) holder reference body

pub undone : (old new : State) (entries : List Entry) → IsUnchanged old new ⊎ IsRolledBack old new → IsTrue new.is_open → HoldsRows entries old → HoldsRows entries new
undone old new entries (inl same) is_open holds = record {
  autocommit = same.0.mode ∙ holds.autocommit;
  schema = ap (λ (d : Database). d.schema) same.0.committed_is ∙ holds.schema;
  settled = ap (λ (d : Database). d.trees 0) same.0.committed_is ∙ holds.settled ∙ ap (λ (d : Database). d.trees 0) (sym same.0.now_is);
  kept = subst (Keeps entries) (sym same.0.now_is) holds.kept;
}
undone old new entries (inr back) is_open holds =
    let both = back.undone is_open in
    record {
      autocommit = back.autocommit;
      schema = ap (λ (d : Database). d.schema) both.1 ∙ holds.schema;
      settled = ap (λ (d : Database). d.trees 0) (both.1 ∙ sym both.0);
      kept = record {
        schema = ap (λ (d : Database). d.schema) both.0 ∙ holds.schema;
        rows = ap (λ (d : Database). d.trees 0) both.0 ∙ holds.settled ∙ holds.kept.rows;
        keyed = holds.kept.keyed;
      };
    }

pub inserts : (old new : State) (kind desk : ℕ) (holder reference body : List ℕ) (r : Result ℕ Error) → Executes insert_text (asked kind desk holder reference body) old new r → IsTrue new.is_open
    → (entries : List Entry) → HoldsRows entries old → MatchResult r (λ _. HoldsMore entries kind desk holder reference body new) (λ _. HoldsRows entries new)
inserts old new kind desk holder reference body (Err e) h is_open entries holds = undone old new entries (fails_whole old new false insert_text (asked kind desk holder reference body) e h) is_open holds
inserts old new kind desk holder reference body (Ok count) h is_open entries holds =
    let params = asked kind desk holder reference body in
    let put = adds old new (pos kind) (pos desk) holder reference body (Ok count) holds.kept.schema h in
    let more = appends entries old.now new.now kind desk holder reference body holds.kept put in
    let w = runs_as insert_text params old new whole_schema holds.kept.schema (Insert 0 (Values terms 7)) insert_is insert_plain count h in
    let settled : new.committed ≡ new.now = w.shown.committed_is ∙ rw holds.autocommit refl in
    record {
      place = more.place;
      holds = record {
        autocommit = w.shown.mode ∙ holds.autocommit;
        schema = ap (λ (d : Database). d.schema) settled ∙ more.kept.schema;
        settled = ap (λ (d : Database). d.trees 0) settled;
        kept = more.kept;
      };
    }

pub was_open_before : (old new : State) → IsUnchanged old new ⊎ IsRolledBack old new → IsTrue new.is_open → IsTrue old.is_open
was_open_before old new (inl same) is_open = same.0.was_open
was_open_before old new (inr back) is_open = back.was_open is_open

run_open : (old new : State) (returning : _) (command : Command) (text : List ℕ) (params : Row) (count : ℕ) → Runs old new returning command text params count → IsTrue new.is_open → IsTrue old.is_open
run_open old new returning (command.Select q names) text params count h is_open = absurd h
run_open old new returning (command.Insert at from) text params count h is_open = h.shown.was_open
run_open old new returning (command.InsertOr at how from clauses) text params count h is_open = h.shown.was_open
run_open old new returning (command.Update at q) text params count h is_open = h.shown.was_open
run_open old new returning (command.Delete at q) text params count h is_open = h.shown.was_open
run_open old new returning command.CreateTable text params count h is_open = h.shown.was_open
run_open old new returning (command.CreateIndex at) text params count h is_open = h.shown.was_open
run_open old new returning (command.DropTable at) text params count h is_open = h.shown.was_open
run_open old new returning (command.DropIndex at) text params count h is_open = h.shown.was_open
run_open old new returning command.CreateView text params count h is_open = h.shown.was_open
run_open old new returning (command.DropView at) text params count h is_open = h.shown.was_open
run_open old new returning command.Begin text params count h is_open = h.1.was_open
run_open old new returning command.Commit text params count h is_open = h.1.was_open
run_open old new returning command.Rollback text params count h is_open = h.1.was_open is_open
run_open old new returning (command.Savepoint name) text params count h is_open = h.0.0.was_open
run_open old new returning (command.Release name) text params count h is_open = elim h.2 [ inl whole ↦ whole.1.0.was_open | inr part ↦ part.1.0.was_open ]
run_open old new returning (command.RollbackTo name) text params count h is_open = h.2.2.was_open
run_open old new returning (command.Rows values width names) text params count h is_open = h.0.0.was_open
run_open old new returning command.Nothing text params count h is_open = h.0.0.was_open

-- what is open after a statement was open before
pub opened_before : (old new : State) (sql : List ℕ) (params : Row) (r : Result ℕ Error) → Executes sql params old new r → IsTrue new.is_open → IsTrue old.is_open
unfolding ExecutesIn
opened_before old new sql params (Err e) h is_open = was_open_before old new (fails_whole old new false sql params e h) is_open
opened_before old new sql params (Ok count) h is_open =
    elim (cases_Bool (shows_rows false h.0)) [
      | inl shows ↦ absurd (let e = (rw shows at h.2).0 in cc)
      | inr runs ↦ run_open old new h.0.returning h.0.command _ _ count (rw runs at h.2) is_open
    ]
