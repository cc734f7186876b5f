-- What the update does to the rows.
use Rattle.std.proofs.Common.{◌≡◌, ℕ, ℤ, pos, ◌<ℤ◌, List, [], ◌∷◌, map, filter, fold, Bool, true, false, not, None, Ok, Option, refl, sym, ap, subst, ◌∙◌, arith, IsPermutation, int_cmp, int_eq, Less, Equal, Greater}
use Rattle.std.specs.List.{list_all, AllByRecursion}
use Rattle.std.proofs.lemmas.Int.{ints}
use Rattle.sqlite.specs.declared.types.Value.TheVariants.{Null, Int, Blob}
use Rattle.sqlite.specs.Order.{Row}
use Rattle.sqlite.specs.Term.{lit, col, holds}
use Rattle.sqlite.specs.Query.{Query, IsAnswer, Output, output, page}
use Rattle.sqlite.specs.Program.{overlay}
use Rattle.sqlite.specs.Tree.{Trees, put_row, without_rowid}
use Rattle.sqlite_rules.specs.Calls.{ids_of}
use Rattle.sqlite.specs.Command.TheVariants.{Update}
use Rattle.sqlite.specs.Does.{Tally, Does}
use Rattle.sqlite.specs.Rows.{Written, Updates}
use Rattle.sqlite.specs.Effect.{Database}
use Rattle.sqlite.specs.Edit.{edit_of, edited}
use Rattle.sqlite.specs.Rowids.TheVariants.{Given}
use Rattle.sqlite_schema.specs.declared.schema.Keys.{Keys}
use Rattle.sqlite_tied.specs.Compute.{everything}
use Rattle.sqlite.specs.Listing.{understood}
use Rattle.sqlite.specs.State.{State, mode_of, Executes}
use Rattle.sqlite.proofs.Callers.{IsPlain, statement_of, runs_as, one_permutation, one_step}
use Rattle.sqlite_keyed.specs.Keyed.{IsKeyedBy, insert_by}
use Rattle.sqlite_keyed.specs.Lists.{without_key, update_where}
use Rattle.sqlite_keyed.proofs.ListLemmas.{filter_all, all_weaker}
use Rattle.sqlite_keyed.proofs.KeyedLemmas.{IsKeyedBy-update_where}
use Rattle.sqlite_keyed.proofs.WriteLemmas.{puts_update}
use Rattle.sqlite_typed.proofs.RowLemmas.{puts-map, deletes-map}
use Rattle.sqlite_typed.proofs.TestLemmas.{at_ints, at_blobs, then_term, last_term}
use Rattle.sqlite_typed.proofs.AnswerLemmas.{at_end, last_table, matches_are}
use Rattle.keeper_sqlite.specs.Kept.{Entry, encode, is_row, with_body, Keeps, whole_schema, update_text}
use Rattle.keeper_sqlite.proofs.Compiled.{base, same_number, same_bytes, update_is}
use Rattle.keeper_sqlite.proofs.DeskRows.{numeric_int}
use Rattle.keeper_sqlite.proofs.Adds.{went, same_value, first_table, task_of, cast_null, cast_int}

module _ {X : Type 0} (key : X → ℤ) where
  apart_above : (id : ℤ) (xs : List X) → AllByRecursion (λ y. id <ℤ key y) xs → without_key key xs id ≡ xs
  apart_above id xs above = filter_all _ xs (all_weaker _ (λ y. not (int_eq (key y) id) ≡ true) (λ y h. let e : int_eq (key y) id ≡ false = grind (arith, ints) in rw e refl) xs above)

  stands_first : (new : X) (xs : List X) → AllByRecursion (λ y. key new <ℤ key y) xs → insert_by key xs new ≡ new ∷ xs
  stands_first new [] above = refl
  stands_first new (y ∷ ys) above = let e : int_cmp (key y) (key new) ≡ Greater = grind (arith, ints, above.0) in rw e refl

  -- a row that is taken out and put again stands in its place
  at_row : (x new : X) (xs : List X) (o : _) → int_cmp (key x) (key new) ≡ o → AllByRecursion (λ y. key x <ℤ key y) xs → insert_by key (without_key key xs (key new)) new ≡ insert_by key xs new
      → insert_by key (without_key key (x ∷ xs) (key new)) new ≡ insert_by key (x ∷ xs) new
  at_row x new xs Less e above more = let apart : int_eq (key x) (key new) ≡ false = grind (arith, ints) in rw (apart, e) (ap (λ l. x ∷ l) more)
  at_row x new xs Equal e above more =
      let same : int_eq (key x) (key new) ≡ true = grind (arith, ints) in
      let equal : key x ≡ key new = grind (arith, ints) in
      let later = subst (λ k. AllByRecursion (λ y. k <ℤ key y) xs) equal above in
      rw (same, e) (ap (λ l. insert_by key l new) (apart_above (key new) xs later) ∙ stands_first new xs later)
  at_row x new xs Greater e above more =
      let apart : int_eq (key x) (key new) ≡ false = grind (arith, ints) in
      let low : key new <ℤ key x = grind (arith, ints) in
      let later = all_weaker _ (λ y. key new <ℤ key y) (λ y h. grind (arith, ints, low, h)) xs above in
      rw (apart, e) (ap (λ l. new ∷ x ∷ l) (apart_above (key new) xs later))

  put_again : (xs : List X) (new : X) → IsKeyedBy key xs → insert_by key (without_key key xs (key new)) new ≡ insert_by key xs new
  put_again [] new keyed = refl
  put_again (x ∷ xs) new keyed = at_row x new xs _ refl keyed.0 (put_again xs new keyed.1)

  -- one row that passes a test is changed, and its key stays
  pub changed_one : (p : X → Bool) (f : X → X) → ((x : X) → key (f x) ≡ key x) → (xs : List X) (x : X) → IsKeyedBy key xs → filter p xs ≡ x ∷ []
      → insert_by key (without_key key xs (key x)) (f x) ≡ update_where p f xs
  changed_one p f keeps xs x keyed only =
      let again = rw (keeps x) at (put_again xs (f x) keyed) in
      again ∙ ap (λ l. fold (insert_by key) xs (map f l)) (sym only) ∙ puts_update key p f keeps xs keyed

abbrev pub update_query : Query
update_query = base (same_number 2 0 ∷ same_number 3 1 ∷ same_bytes 5 2 ∷ []) None (col 1 0 ∷ col 1 0 ∷ lit Null ∷ col 1 2 ∷ col 1 3 ∷ col 1 4 ∷ col 1 5 ∷ col 0 3 ∷ []) []

pub update_plain : IsPlain (understood whole_schema update_text)
unfolding understood everything
update_plain = (refl, refl)

abbrev pub given_to : ℕ → ℕ → List ℕ → List ℕ → Row
given_to kind desk reference body = Int (pos kind) ∷ Int (pos desk) ∷ Blob reference ∷ Blob body ∷ []

update_tests : (kind desk : ℕ) (reference body : List ℕ) (e : Entry) → list_all (holds (given_to kind desk reference body ∷ encode e ∷ [])) update_query.filter ≡ is_row kind desk reference e
update_tests kind desk reference body e =
    rw (numeric_int (pos kind), numeric_int (pos desk))
    (then_term (at_ints false _ (pos e.kind) (pos kind)) (then_term (at_ints false _ (pos e.desk) (pos desk)) (last_term (at_blobs false _ e.reference reference))))

-- the rowid, and then the whole new row
abbrev rewritten : List ℕ → Entry → Row
rewritten body e = Int e.place ∷ encode (with_body body e)

one_row : (db : Trees) (kind desk : ℕ) (reference body : List ℕ) (entries : List Entry) (e : Entry) (rows : List Row) → db 0 ≡ map encode entries → IsKeyedBy (λ (x : Entry). x.place) entries
    → filter (is_row kind desk reference) entries ≡ e ∷ [] → IsAnswer update_query db (given_to kind desk reference body) rows → rows ≡ rewritten body e ∷ []
one_row db kind desk reference body entries e rows has keyed only a =
    let params = given_to kind desk reference body in
    let source = last_table db 0 encode (λ (x : Entry). x.place) entries has keyed (at_end db) in
    let all = matches_are update_query db params source (is_row kind desk reference) (update_tests kind desk reference body) in
    let same = subst (λ l. IsPermutation l a.ordered) (a.distinct ∙ ap (map (output update_query)) (a.grouped ∙ all ∙ ap (map (λ (x : Entry). params ∷ encode x ∷ [])) only)) a.same in
    a.shown ∙ ap (λ l. page update_query params (map (λ (o : Output). o.1) l)) (one_permutation _ a.ordered same)

abbrev key : Entry → ℤ
key e = e.place

edit_one : (db : Trees) (kind desk : ℕ) (reference body : List ℕ) (entries : List Entry) (e : Entry) → db 0 ≡ map encode entries → IsKeyedBy key entries → filter (is_row kind desk reference) entries ≡ e ∷ []
    → edited db (edit_of db first_table (ids_of (rewritten body e ∷ [])) Given 1 (rewritten body e ∷ [])) ≡ map encode (update_where (is_row kind desk reference) (with_body body) entries)
edit_one db kind desk reference body entries e has keyed only =
    let new = with_body body e in
    let cast : edited db (edit_of db first_table (ids_of (rewritten body e ∷ [])) Given 1 (rewritten body e ∷ [])) ≡ put_row (encode new) (without_rowid e.place (db 0)) =
    rw (cast_int e.place, cast_null, cast_int (pos e.kind), cast_int (pos e.desk)) refl in
    cast ∙ ap (λ rows. put_row (encode new) (without_rowid e.place rows)) has
    ∙ ap (put_row (encode new)) (deletes-map key encode (λ _. refl) (e.place ∷ []) entries)
    ∙ puts-map key encode (λ _. refl) (new ∷ []) (without_key key entries e.place)
    ∙ ap (map encode) (changed_one key (is_row kind desk reference) (with_body body) (λ _. refl) entries e keyed only)

-- what an update of that one row leaves
updated : (limit : Option ℕ) (keys : Keys) (db : Trees) (kind desk : ℕ) (reference body : List ℕ) (entries : List Entry) (e : Entry) (w : Written) → db 0 ≡ map encode entries
    → IsKeyedBy key entries → filter (is_row kind desk reference) entries ≡ e ∷ []
    → Updates (task_of limit keys (given_to kind desk reference body)) (record { lets = []; body = update_query }) (given_to kind desk reference body) db (Ok w)
    → w.trees 0 ≡ map encode (update_where (is_row kind desk reference) (with_body body) entries)
updated limit keys db kind desk reference body entries e w has keyed only h =
    let found = went h in
    let is : found.0 ≡ rewritten body e ∷ [] = one_row (overlay db []) kind desk reference body entries e found.0 has keyed only (found.1.answer Null) in
    let written = went found.2 in
    let trees : w.trees ≡ written.0 = ap (λ (it : Written). it.trees) (same_value written.2) in
    let step = (one_step whole_schema keys db written.0 (edit_of db first_table (ids_of found.0) Given 1 found.0) refl written.1).rows in
    ap (λ (t : Trees). t 0) trees ∙ step ∙ ap (λ rows. edited db (edit_of db first_table (ids_of rows) Given 1 rows)) is ∙ edit_one db kind desk reference body entries e has keyed only

-- the statement changes the body of the one entry that matches, and no other
pub settles : (old new : State) (kind desk : ℕ) (reference body : List ℕ) (entries : List Entry) (e : Entry) (count : ℕ) → Keeps entries old.now → filter (is_row kind desk reference) entries ≡ e ∷ []
    → Executes update_text (given_to kind desk reference body) old new (Ok count) → Keeps (update_where (is_row kind desk reference) (with_body body) entries) new.now
settles old new kind desk reference body entries e count keeps only h =
    let params = given_to kind desk reference body in
    let command = Update 0 (record { lets = []; body = update_query }) in
    let has = keeps.schema in
    let w = runs_as update_text params old new whole_schema has command update_is update_plain count h in
    let text = statement_of update_text (understood whole_schema update_text) in
    let done = went (subst (λ s. Does old.step_limit (mode_of old) params (record old.now { schema = s }) text None command (Ok (w.tally, new.now))) has w.changed) in
    let now = ap (λ (p : Tally × Database). p.1) (same_value (went (went done.2).2).2) in
    let put = updated old.step_limit (mode_of old).keys old.now.trees kind desk reference body entries e done.0 keeps.rows keeps.keyed only done.1 in
    record { schema = ap (λ (d : Database). d.schema) now; rows = ap (λ (d : Database). d.trees 0) now ∙ put; keyed = IsKeyedBy-update_where key (is_row kind desk reference) (with_body body) (λ _. refl) entries keeps.keyed }
