-- What the count reads.
use Rattle.std.proofs.Common.{◌≡◌, ℕ, List, [], ◌∷◌, map, filter, length, false, Some, refl, ap, subst, ◌∙◌, IsPermutation}
use Rattle.std.specs.List.{list_all, AllZip}
use Rattle.std.proofs.lemmas.List.{length-map}
use Rattle.std.proofs.lemmas.List.Sorted.{length_permutation}
use Rattle.sqlite.specs.declared.types.Value.TheVariants.{Null}
use Rattle.sqlite.specs.Collation.TheVariants.{Binary}
use Rattle.sqlite.specs.Order.{Row}
use Rattle.sqlite.specs.Term.{lit, col, eval, holds, Env}
use Rattle.sqlite.specs.Query.{Query, IsAnswer, Output, output, page}
use Rattle.sqlite.specs.Program.{overlay}
use Rattle.sqlite.specs.Tree.{Trees}
use Rattle.sqlite_sql.specs.Aggregate.{count}
use Rattle.sqlite_sql.specs.Group.{Grouping, Aggregate, value_over, IsSummary}
use Rattle.sqlite_sql.specs.declared.aggregate.AggregateOp.TheVariants.{CountRows}
use Rattle.sqlite_tied.specs.Compute.{everything}
use Rattle.sqlite.specs.Listing.{understood, reads_listing}
use Rattle.sqlite.specs.State.{State, Shown}
use Rattle.sqlite.proofs.Callers.{IsPlain, reads_as, one_permutation}
use Rattle.sqlite_keyed.specs.Keyed.{IsKeyedBy}
use Rattle.sqlite_typed.proofs.AnswerLemmas.{at_end, last_table, matches_are}
use Rattle.keeper_sqlite.specs.Kept.{Entry, encode, is_at, Keeps, whole_schema, count_text}
use Rattle.keeper_sqlite.proofs.Compiled.{base, same_number, count_is}
use Rattle.keeper_sqlite.proofs.DeskRows.{asked, tests}

abbrev all_rows : Aggregate
all_rows = record { op = CountRows; distinct = false; collation = Binary; argument = lit Null }

abbrev grouping : Grouping
grouping = record { keys = []; collations = []; aggregates = all_rows ∷ []; having = [] }

abbrev count_query : Query
count_query = base (same_number 2 0 ∷ same_number 3 1 ∷ []) (Some grouping) (col 1 0 ∷ []) []

pub count_plain : IsPlain (understood whole_schema count_text)
unfolding understood everything
count_plain = (refl, refl)

count_unlisted : reads_listing whole_schema count_text ≡ false
unfolding understood everything
count_unlisted = refl

one_value : (order : List Env) (values : Row) → AllZip (λ a v. value_over order a ≡ Some v) (all_rows ∷ []) values → values ≡ count (length order) ∷ []
one_value order [] h = absurd h
one_value order (v ∷ u ∷ values) h = absurd h.1
one_value order (v ∷ []) h = let is : v ≡ count (length (map (eval (lit Null)) order)) = (let e = h.0 in cc) in ap (λ x. x ∷ []) (is ∙ ap count (length-map order _))

one_row : (order : List Env) (rows : List Row) → AllZip (IsSummary grouping) (order ∷ []) rows → rows ≡ (count (length order) ∷ []) ∷ []
one_row order [] h = absurd h
one_row order (r ∷ x ∷ rows) h = absurd h.1
one_row order (r ∷ []) h = ap (λ x. x ∷ []) (h.0.2 ∙ one_value order h.0.0 h.0.1)

answers : (db : Trees) (kind desk : ℕ) (entries : List Entry) (rows : List Row) → db 0 ≡ map encode entries → IsKeyedBy (λ (e : Entry). e.place) entries → IsAnswer count_query db (asked kind desk) rows
    → rows ≡ (count (length (filter (is_at kind desk) entries)) ∷ []) ∷ []
answers db kind desk entries rows has keyed a =
    let params = asked kind desk in
    let source = last_table db 0 encode (λ (e : Entry). e.place) entries has keyed (at_end db) in
    let all = matches_are count_query db params source (is_at kind desk) (tests kind desk) in
    let made = a.grouped in
    let order = made.grouping.0 in
    let row : made.rows ≡ (count (length order) ∷ []) ∷ [] = one_row order made.rows (subst (λ g. AllZip (IsSummary grouping) g made.rows) made.grouping.2 made.summaries) in
    let many : length order ≡ length (filter (is_at kind desk) entries) = length_permutation _ order made.grouping.1 ∙ ap length all ∙ length-map (filter (is_at kind desk) entries) _ in
    let same = subst (λ l. IsPermutation l a.ordered) (a.distinct ∙ ap (map (output count_query)) (made.having ∙ ap (λ rs. filter (λ env. list_all (holds env) []) (map (λ r. params ∷ r ∷ []) rs)) row)) a.same in
    a.shown ∙ ap (λ l. page count_query params (map (λ (o : Output). o.1) l)) (one_permutation _ a.ordered same) ∙ ap (λ n. (count n ∷ []) ∷ []) many

-- the number of the rows of a table and desk
pub counts : (old new : State) (kind desk : ℕ) (entries : List Entry) (rows : List Row) → Keeps entries old.now → Shown count_text (asked kind desk) old new rows
    → rows ≡ (count (length (filter (is_at kind desk) entries)) ∷ []) ∷ []
counts old new kind desk entries rows keeps h =
    let read = reads_as count_text (asked kind desk) old new whole_schema keeps.schema _ count_is count_plain count_unlisted rows h in
    answers (overlay old.now.trees []) kind desk entries rows keeps.rows keeps.keyed (read.answer Null)
