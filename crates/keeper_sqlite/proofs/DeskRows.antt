-- What the list of a desk reads.
use Rattle.std.proofs.Common.{◌≡◌, ℕ, ℤ, pos, List, [], ◌∷◌, map, map-id, filter, false, None, refl, sym, ◌∙◌}
use Rattle.std.specs.List.{list_all}
use Rattle.std.specs.Ordering.{int_cmp}
use Rattle.sqlite.specs.declared.types.Value.TheVariants.{Null, Int}
use Rattle.sqlite.specs.Collation.TheVariants.{Binary}
use Rattle.sqlite.specs.Order.{Row}
use Rattle.sqlite.specs.Term.{col, holds}
use Rattle.sqlite.specs.Ops.{unary}
use Rattle.sqlite.specs.Query.{Query, IsAnswer, output, output_cmp, page}
use Rattle.sqlite_sql.specs.declared.ops.UnaryOp.TheVariants.{ToNumeric}
use Rattle.sqlite.specs.Program.{overlay}
use Rattle.sqlite.specs.Tree.{Trees}
use Rattle.sqlite_tied.specs.Compute.{everything}
use Rattle.sqlite.specs.Listing.{understood, reads_listing}
use Rattle.sqlite.specs.State.{State, Shown}
use Rattle.sqlite.proofs.Callers.{IsPlain, reads_as}
use Rattle.sqlite_keyed.specs.Keyed.{IsKeyedBy}
use Rattle.sqlite_value.proofs.OrderLemmas.{value_cmp-Int}
use Rattle.sqlite_typed.proofs.TestLemmas.{at_ints, then_term, last_term, last_key}
use Rattle.sqlite_typed.proofs.AnswerLemmas.{at_end, last_table, answer_by_keys}
use Rattle.keeper_sqlite.specs.Kept.{Entry, encode, shown, is_at, Keeps, whole_schema, of_desk_text}
use Rattle.keeper_sqlite.proofs.Compiled.{base, same_number, of_desk_is}

abbrev desk_query : Query
desk_query = base (same_number 2 0 ∷ same_number 3 1 ∷ []) None (col 1 5 ∷ col 1 6 ∷ []) ((col 1 0, record { collation = Binary; descending = false }) ∷ [])

pub desk_plain : IsPlain (understood whole_schema of_desk_text)
unfolding understood everything
desk_plain = (refl, refl)

desk_unlisted : reads_listing whole_schema of_desk_text ≡ false
unfolding understood everything
desk_unlisted = refl

pub numeric_int : (z : ℤ) → unary ToNumeric (Int z) ≡ Int z
unfolding unary
numeric_int z = refl

abbrev pub asked : ℕ → ℕ → Row
asked kind desk = Int (pos kind) ∷ Int (pos desk) ∷ []

pub tests : (kind desk : ℕ) (e : Entry) → list_all (holds (asked kind desk ∷ encode e ∷ [])) desk_query.filter ≡ is_at kind desk e
tests kind desk e = rw (numeric_int (pos kind), numeric_int (pos desk)) (then_term (at_ints false _ (pos e.kind) (pos kind)) (last_term (at_ints false _ (pos e.desk) (pos desk))))

order : (kind desk : ℕ) (a b : Entry) → output_cmp desk_query (output desk_query (asked kind desk ∷ encode a ∷ [])) (output desk_query (asked kind desk ∷ encode b ∷ [])) ≡ int_cmp a.place b.place
order kind desk a b = last_key (value_cmp-Int a.place b.place)

whole_page : (params : Row) (xs : List Row) → page desk_query params xs ≡ xs
whole_page params xs = refl

answers : (db : Trees) (kind desk : ℕ) (entries : List Entry) (rows : List Row) → db 0 ≡ map encode entries → IsKeyedBy (λ (e : Entry). e.place) entries → IsAnswer desk_query db (asked kind desk) rows → rows ≡ map shown (filter (is_at kind desk) entries)
answers db kind desk entries rows has keyed a =
    let source = last_table db 0 encode (λ (e : Entry). e.place) entries has keyed (at_end db) in
    let all = answer_by_keys desk_query db (asked kind desk) source (is_at kind desk) (tests kind desk) (λ r. r) shown (λ e. refl) refl refl (order kind desk) rows a in
    sym (map-id rows) ∙ all ∙ whole_page (asked kind desk) _

pub lists : (old new : State) (kind desk : ℕ) (entries : List Entry) (rows : List Row) → Keeps entries old.now → Shown of_desk_text (asked kind desk) old new rows → rows ≡ map shown (filter (is_at kind desk) entries)
lists old new kind desk entries rows keeps h =
    let read = reads_as of_desk_text (asked kind desk) old new whole_schema keeps.schema _ of_desk_is desk_plain desk_unlisted rows h in
    answers (overlay old.now.trees []) kind desk entries rows keeps.rows keeps.keyed (read.answer Null)
