-- What the list of a holder reads.
use Rattle.std.proofs.Common.{◌≡◌, ℕ, pos, List, [], ◌∷◌, map, map-id, filter, false, None, refl, sym, ◌∙◌}
use Rattle.std.specs.List.{list_all}
use Rattle.std.specs.Ordering.{int_cmp}
use Rattle.sqlite.specs.declared.types.Value.TheVariants.{Null, Int, Blob}
use Rattle.sqlite.specs.Collation.TheVariants.{Binary}
use Rattle.sqlite.specs.Order.{Row}
use Rattle.sqlite.specs.Term.{col, holds}
use Rattle.sqlite.specs.Query.{Query, IsAnswer, output, output_cmp, page}
use Rattle.sqlite.specs.Program.{overlay}
use Rattle.sqlite.specs.Tree.{Trees}
use Rattle.sqlite_tied.specs.Compute.{everything}
use Rattle.sqlite.specs.Listing.{understood, reads_listing}
use Rattle.sqlite.specs.State.{State, Shown}
use Rattle.sqlite.proofs.Callers.{IsPlain, reads_as}
use Rattle.sqlite_keyed.specs.Keyed.{IsKeyedBy}
use Rattle.sqlite_value.proofs.OrderLemmas.{value_cmp-Int}
use Rattle.sqlite_typed.proofs.TestLemmas.{at_ints, at_blobs, then_term, last_term, last_key}
use Rattle.sqlite_typed.proofs.AnswerLemmas.{at_end, last_table, answer_by_keys}
use Rattle.keeper_sqlite.specs.Kept.{Entry, encode, shown, is_for, Keeps, whole_schema, of_holder_text}
use Rattle.keeper_sqlite.proofs.DeskRows.{numeric_int}
use Rattle.keeper_sqlite.proofs.Compiled.{base, same_number, same_bytes, of_holder_is}

abbrev holder_query : Query
holder_query = base (same_number 2 0 ∷ same_number 3 1 ∷ same_bytes 4 2 ∷ []) None (col 1 5 ∷ col 1 6 ∷ []) ((col 1 0, record { collation = Binary; descending = false }) ∷ [])

pub holder_plain : IsPlain (understood whole_schema of_holder_text)
unfolding understood everything
holder_plain = (refl, refl)

holder_unlisted : reads_listing whole_schema of_holder_text ≡ false
unfolding understood everything
holder_unlisted = refl

abbrev pub asked : ℕ → ℕ → List ℕ → Row
asked kind desk holder = Int (pos kind) ∷ Int (pos desk) ∷ Blob holder ∷ []

tests : (kind desk : ℕ) (holder : List ℕ) (e : Entry) → list_all (holds (asked kind desk holder ∷ encode e ∷ [])) holder_query.filter ≡ is_for kind desk holder e
tests kind desk holder e =
    rw (numeric_int (pos kind), numeric_int (pos desk))
    (then_term (at_ints false _ (pos e.kind) (pos kind)) (then_term (at_ints false _ (pos e.desk) (pos desk)) (last_term (at_blobs false _ e.holder holder))))

order : (kind desk : ℕ) (holder : List ℕ) (a b : Entry) → output_cmp holder_query (output holder_query (asked kind desk holder ∷ encode a ∷ [])) (output holder_query (asked kind desk holder ∷ encode b ∷ [])) ≡ int_cmp a.place b.place
order kind desk holder a b = last_key (value_cmp-Int a.place b.place)

whole_page : (params : Row) (xs : List Row) → page holder_query params xs ≡ xs
whole_page params xs = refl

answers : (db : Trees) (kind desk : ℕ) (holder : List ℕ) (entries : List Entry) (rows : List Row) → db 0 ≡ map encode entries → IsKeyedBy (λ (e : Entry). e.place) entries → IsAnswer holder_query db (asked kind desk holder) rows
    → rows ≡ map shown (filter (is_for kind desk holder) entries)
answers db kind desk holder entries rows has keyed a =
    let source = last_table db 0 encode (λ (e : Entry). e.place) entries has keyed (at_end db) in
    let all = answer_by_keys holder_query db (asked kind desk holder) source (is_for kind desk holder) (tests kind desk holder) (λ r. r) shown (λ e. refl) refl refl (order kind desk holder) rows a in
    sym (map-id rows) ∙ all ∙ whole_page (asked kind desk holder) _

pub lists : (old new : State) (kind desk : ℕ) (holder : List ℕ) (entries : List Entry) (rows : List Row) → Keeps entries old.now → Shown of_holder_text (asked kind desk holder) old new rows → rows ≡ map shown (filter (is_for kind desk holder) entries)
lists old new kind desk holder entries rows keeps h =
    let read = reads_as of_holder_text (asked kind desk holder) old new whole_schema keeps.schema _ of_holder_is holder_plain holder_unlisted rows h in
    answers (overlay old.now.trees []) kind desk holder entries rows keeps.rows keeps.keyed (read.answer Null)
