-- A row with a new greatest place stands at the end.
use Rattle.std.proofs.Common.{◌≡◌, ℕ, ℤ, pos, ◌+ℤ◌, ◌<ℤ◌, ◌≤ℤ◌, List, [], ◌∷◌, ◌++◌, map, fold, refl, sym, ap, subst, ◌∙◌, arith}
use Rattle.std.proofs.lemmas.Int.{ints}
use Rattle.std.specs.List.{AllByRecursion}
use Rattle.sqlite.specs.Edit.{at_least, next_rowid, id_in}
use Rattle.sqlite.specs.Rowids.TheVariants.{Above}
use Rattle.sqlite.specs.Tree.{put_row, rowid}
use Rattle.sqlite.specs.Effect.{Database}
use Rattle.sqlite_value.proofs.OrderLemmas.{value_cmp-Int}
use Rattle.sqlite_keyed.specs.Keyed.{IsKeyedBy}
use Rattle.sqlite_keyed.proofs.KeyedLemmas.{Less-from_lt, above_all}
use Rattle.keeper_sqlite.specs.Kept.{Entry, encode, Keeps, IsPut, Appended, entry}

abbrev place : Entry → ℤ
place e = e.place

abbrev IsBelow : ℤ → List Entry → Type 0
IsBelow top entries = AllByRecursion (λ (e : Entry). e.place <ℤ top) entries

fold_places : (start : ℤ) (entries : List Entry) → fold (λ _ r. id_in (rowid r) +ℤ pos 1) start (map encode entries) ≡ fold (λ _ (e : Entry). e.place +ℤ pos 1) start entries
fold_places start [] = refl
fold_places start (e ∷ entries) = fold_places (e.place +ℤ pos 1) entries

all_below : (entries : List Entry) → IsKeyedBy place entries → IsBelow (next_rowid (map encode entries)) entries
all_below [] keyed = tt
all_below (e ∷ entries) keyed = subst (λ n. IsBelow n (e ∷ entries)) (sym (fold_places (e.place +ℤ pos 1) entries)) (above_all place entries e keyed)

weaker : (a b : ℤ) (entries : List Entry) → a ≤ℤ b → IsBelow a entries → IsBelow b entries
weaker a b [] h low = tt
weaker a b (e ∷ entries) h low = (grind (arith, ints, low.0, h), weaker a b entries h low.1)

reaches : (top n : ℤ) → n ≤ℤ at_least (Above top) n
reaches top n = grind (arith, ints)

put_last : (new : Entry) (entries : List Entry) → IsBelow new.place entries → put_row (encode new) (map encode entries) ≡ map encode (entries ++ new ∷ [])
put_last new [] low = refl
put_last new (e ∷ entries) low = rw (value_cmp-Int e.place new.place, Less-from_lt e.place new.place low.0, put_last new entries low.1) refl

grown : (e new : Entry) (entries : List Entry) → e.place <ℤ new.place → AllByRecursion (λ (x : Entry). e.place <ℤ x.place) entries → AllByRecursion (λ (x : Entry). e.place <ℤ x.place) (entries ++ new ∷ [])
grown e new [] low h = (low, tt)
grown e new (x ∷ entries) low h = (h.0, grown e new entries low h.1)

keyed_last : (new : Entry) (entries : List Entry) → IsKeyedBy place entries → IsBelow new.place entries → IsKeyedBy place (entries ++ new ∷ [])
keyed_last new [] keyed low = (tt, tt)
keyed_last new (e ∷ entries) keyed low = (grown e new entries low.0 keyed.0, keyed_last new entries keyed.1 low.1)

-- the rows are a list to which the call appends
pub appends : (entries : List Entry) (old new : Database) (kind desk : ℕ) (holder reference body : List ℕ) → Keeps entries old → IsPut (pos kind) (pos desk) holder reference body old new
    → Appended entries kind desk holder reference body new
appends entries old new kind desk holder reference body keeps put =
    let id = at_least (Above put.top) (next_rowid (old.trees 0)) in
    let e = entry id kind desk holder reference body in
    let reach = reaches put.top (next_rowid (old.trees 0)) in
    let below = subst (λ rows. IsBelow (next_rowid rows) entries) (sym keeps.rows) (all_below entries keeps.keyed) in
    let low = weaker (next_rowid (old.trees 0)) id entries reach below in
    record { place = id; kept = record { schema = put.schema; rows = put.rows ∙ ap (put_row (encode e)) keeps.rows ∙ put_last e entries low; keyed = keyed_last e entries keeps.keyed low } }
