-- What an update leaves of the rows, whatever it answers.
use Rattle.std.proofs.Common.{◌≡◌, ℕ, false, List, [], ◌∷◌, filter, Ok, Err, Result, MatchResult, IsTrue, refl, ap, ◌∙◌}
use Rattle.sqlite.specs.Command.TheVariants.{Update}
use Rattle.sqlite.specs.declared.error.Error.{Error}
use Rattle.sqlite.specs.Effect.{Database}
use Rattle.sqlite.specs.State.{State, Executes}
use Rattle.sqlite.proofs.Callers.{runs_as}
use Rattle.sqlite.proofs.InsideLemmas.{fails_whole}
use Rattle.sqlite_keyed.specs.Lists.{update_where}
use Rattle.keeper_sqlite.specs.Kept.{Entry, HoldsRows, is_row, with_body, whole_schema, update_text}
use Rattle.keeper_sqlite.proofs.Compiled.{update_is}
use Rattle.keeper_sqlite.proofs.Keeping.{undone}
use Rattle.keeper_sqlite.proofs.Settles.{update_query, update_plain, given_to, settles}

pub updates : (old new : State) (kind desk : ℕ) (reference body : List ℕ) (r : Result ℕ Error) → Executes update_text (given_to kind desk reference body) old new r → IsTrue new.is_open
    → (entries : List Entry) → HoldsRows entries old → (e : Entry) → filter (is_row kind desk reference) entries ≡ e ∷ []
    → MatchResult r (λ _. HoldsRows (update_where (is_row kind desk reference) (with_body body) entries) new) (λ _. HoldsRows entries new)
updates old new kind desk reference body (Err e) h is_open entries holds one only = undone old new entries (fails_whole old new false update_text (given_to kind desk reference body) e h) is_open holds
updates old new kind desk reference body (Ok count) h is_open entries holds one only =
    let params = given_to kind desk reference body in
    let kept = settles old new kind desk reference body entries one count holds.kept only h in
    let w = runs_as update_text params old new whole_schema holds.kept.schema (Update 0 (record { lets = []; body = update_query })) update_is update_plain count h in
    let settled : new.committed ≡ new.now = w.shown.committed_is ∙ rw holds.autocommit refl in
    record {
      autocommit = w.shown.mode ∙ holds.autocommit;
      schema = ap (λ (d : Database). d.schema) settled ∙ kept.schema;
      settled = ap (λ (d : Database). d.trees 0) settled;
      kept = kept;
    }
