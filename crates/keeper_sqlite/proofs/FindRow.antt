-- What the look-up of one row reads.
use Rattle.std.proofs.Common.{◌≡◌, ℕ, pos, List, [], ◌∷◌, map, filter, false, None, refl, ap, subst, ◌∙◌, IsPermutation}
use Rattle.std.specs.List.{list_all}
use Rattle.std.proofs.lemmas.List.Sorted.{length_permutation}
use Rattle.sqlite.specs.declared.types.Value.TheVariants.{Null, Int, Blob}
use Rattle.sqlite.specs.Order.{Row}
use Rattle.sqlite.specs.Term.{col, holds}
use Rattle.sqlite.specs.Query.{Query, IsAnswer, Output, output, page}
use Rattle.sqlite.specs.Program.{overlay}
use Rattle.sqlite.specs.Tree.{Trees}
use Rattle.sqlite_tied.specs.Compute.{everything}
use Rattle.sqlite.specs.Listing.{understood, reads_listing}
use Rattle.sqlite.specs.State.{State, Shown}
use Rattle.sqlite.proofs.Callers.{IsPlain, reads_as, one_permutation}
use Rattle.sqlite_keyed.specs.Keyed.{IsKeyedBy}
use Rattle.sqlite_typed.proofs.TestLemmas.{at_ints, at_blobs, then_term, last_term}
use Rattle.sqlite_typed.proofs.AnswerLemmas.{at_end, last_table, matches_are}
use Rattle.std.proofs.lemmas.List.{nil_from_length}
use Rattle.keeper_sqlite.specs.Kept.{Entry, encode, shown, is_row, Keeps, whole_schema, find_text}
use Rattle.keeper_sqlite.proofs.Compiled.{base, same_number, same_bytes, find_is}
use Rattle.keeper_sqlite.proofs.DeskRows.{numeric_int}

abbrev find_query : Query
find_query = base (same_number 2 0 ∷ same_number 3 1 ∷ same_bytes 5 2 ∷ []) None (col 1 5 ∷ col 1 6 ∷ []) []

pub find_plain : IsPlain (understood whole_schema find_text)
unfolding understood everything
find_plain = (refl, refl)

find_unlisted : reads_listing whole_schema find_text ≡ false
unfolding understood everything
find_unlisted = refl

abbrev pub asked : ℕ → ℕ → List ℕ → Row
asked kind desk reference = Int (pos kind) ∷ Int (pos desk) ∷ Blob reference ∷ []

tests : (kind desk : ℕ) (reference : List ℕ) (e : Entry) → list_all (holds (asked kind desk reference ∷ encode e ∷ [])) find_query.filter ≡ is_row kind desk reference e
tests kind desk reference e =
    rw (numeric_int (pos kind), numeric_int (pos desk))
    (then_term (at_ints false _ (pos e.kind) (pos kind)) (then_term (at_ints false _ (pos e.desk) (pos desk)) (last_term (at_blobs false _ e.reference reference))))

-- the answer is some order of the rows that match
answers : (db : Trees) (kind desk : ℕ) (reference : List ℕ) (entries : List Entry) (rows : List Row) → db 0 ≡ map encode entries → IsKeyedBy (λ (e : Entry). e.place) entries
    → (a : IsAnswer find_query db (asked kind desk reference) rows)
    → IsPermutation (map (output find_query) (map (λ (e : Entry). asked kind desk reference ∷ encode e ∷ []) (filter (is_row kind desk reference) entries))) a.ordered
answers db kind desk reference entries rows has keyed a =
    let source = last_table db 0 encode (λ (e : Entry). e.place) entries has keyed (at_end db) in
    let all = matches_are find_query db (asked kind desk reference) source (is_row kind desk reference) (tests kind desk reference) in
    subst (λ l. IsPermutation l a.ordered) (a.distinct ∙ ap (map (output find_query)) (a.grouped ∙ all)) a.same

one : (db : Trees) (kind desk : ℕ) (reference : List ℕ) (entries : List Entry) (e : Entry) (rows : List Row) → db 0 ≡ map encode entries → IsKeyedBy (λ (x : Entry). x.place) entries
    → filter (is_row kind desk reference) entries ≡ e ∷ [] → IsAnswer find_query db (asked kind desk reference) rows → rows ≡ shown e ∷ []
one db kind desk reference entries e rows has keyed only a =
    let same = rw only at (answers db kind desk reference entries rows has keyed a) in
    a.shown ∙ ap (λ l. page find_query (asked kind desk reference) (map (λ (o : Output). o.1) l)) (one_permutation _ a.ordered same)

-- where one row matches, it is the answer
pub finds : (old new : State) (kind desk : ℕ) (reference : List ℕ) (entries : List Entry) (e : Entry) (rows : List Row) → Keeps entries old.now
    → filter (is_row kind desk reference) entries ≡ e ∷ [] → Shown find_text (asked kind desk reference) old new rows → rows ≡ shown e ∷ []
finds old new kind desk reference entries e rows keeps only h =
    let read = reads_as find_text (asked kind desk reference) old new whole_schema keeps.schema _ find_is find_plain find_unlisted rows h in
    one (overlay old.now.trees []) kind desk reference entries e rows keeps.rows keeps.keyed only (read.answer Null)

none : (db : Trees) (kind desk : ℕ) (reference : List ℕ) (entries : List Entry) (rows : List Row) → db 0 ≡ map encode entries → IsKeyedBy (λ (x : Entry). x.place) entries
    → filter (is_row kind desk reference) entries ≡ [] → IsAnswer find_query db (asked kind desk reference) rows → rows ≡ []
none db kind desk reference entries rows has keyed nothing a =
    let same = rw nothing at (answers db kind desk reference entries rows has keyed a) in
    a.shown ∙ ap (λ l. page find_query (asked kind desk reference) (map (λ (o : Output). o.1) l)) (nil_from_length a.ordered (length_permutation _ a.ordered same))

-- where no row matches, there is no answer
pub finds_none : (old new : State) (kind desk : ℕ) (reference : List ℕ) (entries : List Entry) (rows : List Row) → Keeps entries old.now
    → filter (is_row kind desk reference) entries ≡ [] → Shown find_text (asked kind desk reference) old new rows → rows ≡ []
finds_none old new kind desk reference entries rows keeps nothing h =
    let read = reads_as find_text (asked kind desk reference) old new whole_schema keeps.schema _ find_is find_plain find_unlisted rows h in
    none (overlay old.now.trees []) kind desk reference entries rows keeps.rows keeps.keyed nothing (read.answer Null)
