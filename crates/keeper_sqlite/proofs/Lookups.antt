-- What a query leaves and gives, whatever it answers.
use Rattle.std.proofs.Common.{◌≡◌, inl, ℕ, List, [], ◌∷◌, map, filter, length, Ok, Err, IsTrue, sym, subst}
use Rattle.std.specs.Prelude.{IfOk, IfErr, Vec, Result}
use Rattle.std.specs.declared.alloc.Global.{Global}
use Rattle.sqlite.specs.Order.{Row}
use Rattle.sqlite.specs.declared.error.Error.{Error}
use Rattle.sqlite.specs.Listing.{understood}
use Rattle.sqlite.specs.State.{State, Shown, FailsToQuery}
use Rattle.sqlite.proofs.Callers.{IsPlain}
use Rattle.sqlite_sql.specs.Aggregate.{count}
use Rattle.keeper_sqlite.specs.Kept.{Entry, HoldsRows, Looked, whole_schema, find_text, of_desk_text, of_holder_text, count_text, shown, is_at, is_for}
use Rattle.keeper_sqlite.proofs.Keeping.{undone, was_open_before}
use Rattle.keeper_sqlite.proofs.Queries.{query_open, query_keeps, query_fails}
use Rattle.keeper_sqlite.proofs.FindRow.{asked, finds, finds_none}
use Rattle.keeper_sqlite.proofs.DeskRows as desks
use Rattle.keeper_sqlite.proofs.HolderRows as holders
use Rattle.keeper_sqlite.proofs.Counts as counting

pub was_open : (old new : State) (sql : List ℕ) (params : Row) (r : Result (Vec Row Global) Error) → IfOk r (λ rows. Shown sql params old new rows.items) → IfErr r (FailsToQuery sql params old new) → IsTrue new.is_open → IsTrue old.is_open
was_open old new sql params (Ok rows) ok err is_open = query_open old new sql params rows.items ok
was_open old new sql params (Err e) ok err is_open = was_open_before old new (query_fails old new sql params e err) is_open

-- a query leaves all as it was
pub stays : (old new : State) (sql : List ℕ) (params : Row) → IsPlain (understood whole_schema sql) → (r : Result (Vec Row Global) Error) → IfOk r (λ rows. Shown sql params old new rows.items) → IfErr r (FailsToQuery sql params old new)
    → IsTrue new.is_open → (entries : List Entry) → HoldsRows entries old → HoldsRows entries new
stays old new sql params plain (Ok rows) ok err is_open entries holds =
    let known = subst (λ s. IsPlain (understood s sql)) (sym holds.kept.schema) plain in
    undone old new entries (inl (query_keeps old new sql params rows.items known ok)) is_open holds
stays old new sql params plain (Err e) ok err is_open entries holds = undone old new entries (query_fails old new sql params e err) is_open holds

pub looked : (old new : State) (kind desk : ℕ) (reference : List ℕ) (r : Result (Vec Row Global) Error) (entries : List Entry) → HoldsRows entries old → IfOk r (λ rows. Shown find_text (asked kind desk reference) old new rows.items)
    → IfOk r (λ rows. Looked entries kind desk reference rows.items)
looked old new kind desk reference (Ok rows) entries holds ok = record {
  one = λ e only. finds old new kind desk reference entries e rows.items holds.kept only ok;
  none = λ nothing. finds_none old new kind desk reference entries rows.items holds.kept nothing ok;
}
looked old new kind desk reference (Err e) entries holds ok = tt

pub desk_listed : (old new : State) (kind desk : ℕ) (r : Result (Vec Row Global) Error) (entries : List Entry) → HoldsRows entries old → IfOk r (λ rows. Shown of_desk_text (desks.asked kind desk) old new rows.items)
    → IfOk r (λ rows. rows.items ≡ map shown (filter (is_at kind desk) entries))
desk_listed old new kind desk (Ok rows) entries holds ok = desks.lists old new kind desk entries rows.items holds.kept ok
desk_listed old new kind desk (Err e) entries holds ok = tt

pub holder_listed : (old new : State) (kind desk : ℕ) (holder : List ℕ) (r : Result (Vec Row Global) Error) (entries : List Entry) → HoldsRows entries old → IfOk r (λ rows. Shown of_holder_text (holders.asked kind desk holder) old new rows.items)
    → IfOk r (λ rows. rows.items ≡ map shown (filter (is_for kind desk holder) entries))
holder_listed old new kind desk holder (Ok rows) entries holds ok = holders.lists old new kind desk holder entries rows.items holds.kept ok
holder_listed old new kind desk holder (Err e) entries holds ok = tt

pub counted : (old new : State) (kind desk : ℕ) (r : Result (Vec Row Global) Error) (entries : List Entry) → HoldsRows entries old → IfOk r (λ rows. Shown count_text (desks.asked kind desk) old new rows.items)
    → IfOk r (λ rows. rows.items ≡ (count (length (filter (is_at kind desk) entries)) ∷ []) ∷ [])
counted old new kind desk (Ok rows) entries holds ok = counting.counts old new kind desk entries rows.items holds.kept ok
counted old new kind desk (Err e) entries holds ok = tt
