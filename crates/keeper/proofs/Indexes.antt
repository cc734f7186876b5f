-- What an index says of a list of rows, and how it follows the list.
use Rattle.std.proofs.Common.{◌≡◌, ℕ, Bool, true, false, cond, List, [], ◌∷◌, ◌++◌, length, None, Some, refl, sym, ap, ◌∙◌}
use Rattle.std.specs.Prelude.{◌&&◌}
use Rattle.std.specs.List.{find, position}
use Rattle.std.specs.Ordering.{is_eq, nat_cmp}
use Rattle.std.specs.Cmp.{both_tied, unsigned_ties, alike_right, Equal-is}
use Rattle.std.specs.Cmp.Lexicographic.{slice_cmp, lists_ties}
use Rattle.std.specs.Str.{bytes_eq}
use Rattle.std.specs.BTreeMap.{BTreeMap, get}
use Rattle.holder_reference.specs.Reference.{holder_part}
use Rattle.keeper.specs.declared.rows.Row.{Row}
use Rattle.keeper.specs.declared.rows.Settled.{Settled}
use Rattle.keeper.specs.declared.rows.Table.{Table}
use Rattle.keeper.specs.declared.rows.Table.TheVariants.{Own}
use Rattle.keeper.specs.declared.index.Index.{Index}
use Rattle.keeper.specs.Rows.{table_of, kind_of, is_of, has_key, kept_row, settled_rows}
use Rattle.std.specs.declared.result.Result.{Result}
use Rattle.keeper.specs.declared.keeping.KeepRefusal.{KeepRefusal}
use Rattle.keeper.specs.Keeping.{Settles}
use Rattle.keeper.specs.Steps.{is_held}
use Rattle.keeper.specs.Headings.{Heading, heading_cmp, heading_total, is_under, heading, desk_of, holder_of, key_of, list_at, places_of, with_place, without_last, Enters, StayPlaces, Becomes, StayLists}
use Rattle.keeper.specs.Index.{AreFiled, AreKeyed, IsIndex}
use Rattle.keeper.proofs.Places.{places_more, position_more, no_position, places_mapped, position_mapped}
use Rattle.keeper.proofs.PlaceLists.{taken_out}
use Rattle.keeper.proofs.SettledRows.{now, SameKey, keeps_key, settles_keeps}

-- ---- headings tell what the keys of rows tell

bytes_tell : (a b : List ℕ) → bytes_eq a b ≡ is_eq (slice_cmp nat_cmp a b)
bytes_tell a b = lists_ties nat_cmp unsigned_ties a b

and_true : (b : Bool) → b ≡ (b && true)
and_true true = refl
and_true false = refl

pub key_tells : (table : Table) (desk : ℕ) (reference : List ℕ) (row : Row) → has_key table desk reference row ≡ is_under (key_of row) (heading table desk reference)
key_tells table desk reference row = both_tied _ _ _ _ (both_tied _ _ _ _ (unsigned_ties (kind_of (table_of row.part)) (kind_of table)) (unsigned_ties row.desk desk)) (bytes_tell row.reference reference)

pub holder_tells : (table : Table) (desk : ℕ) (holder : List ℕ) (row : Row) → is_held table desk holder row ≡ is_under (holder_of row) (heading table desk holder)
holder_tells table desk holder row = both_tied _ _ _ _ (both_tied _ _ _ _ (unsigned_ties (kind_of (table_of row.part)) (kind_of table)) (unsigned_ties row.desk desk)) (bytes_tell (holder_part row.reference) holder)

pub desk_tells : (table : Table) (desk : ℕ) (row : Row) → is_of table desk row ≡ is_under (desk_of row) (heading table desk [])
desk_tells table desk row = and_true (is_of table desk row) ∙ both_tied _ _ _ _ (both_tied _ _ _ _ (unsigned_ties (kind_of (table_of row.part)) (kind_of table)) (unsigned_ties row.desk desk)) (bytes_tell [] [])

-- ---- what is looked up

pub key_place : (keys : BTreeMap Heading ℕ) (rows : List Row) (table : Table) (desk : ℕ) (reference : List ℕ) → AreKeyed keys rows → get heading_cmp keys (heading table desk reference) ≡ position (has_key table desk reference) rows
key_place keys rows table desk reference are = are (heading table desk reference) ∙ (λ i. position (λ row. sym (key_tells table desk reference row) i) rows)

pub desk_places : (lists : BTreeMap Heading (List ℕ)) (rows : List Row) (table : Table) (desk : ℕ) → AreFiled desk_of lists rows → list_at lists (heading table desk []) ≡ places_of (is_of table desk) rows
desk_places lists rows table desk are = are (heading table desk []) ∙ (λ i. places_of (λ row. sym (desk_tells table desk row) i) rows)

pub holder_places : (lists : BTreeMap Heading (List ℕ)) (rows : List Row) (table : Table) (desk : ℕ) (holder : List ℕ) → AreFiled holder_of lists rows → list_at lists (heading table desk holder) ≡ places_of (is_held table desk holder) rows
holder_places lists rows table desk holder are = are (heading table desk holder) ∙ (λ i. places_of (λ row. sym (holder_tells table desk holder row) i) rows)

-- ---- one row more

filed : (heading_of : Row → Heading) (old new : BTreeMap Heading (List ℕ)) (rows : List Row) (row : Row) (place : ℕ) → place ≡ length rows → Becomes (with_place place) (heading_of row) old new → AreFiled heading_of old rows → AreFiled heading_of new (rows ++ row ∷ [])
filed heading_of old new rows row place e becomes are = λ q.
    becomes q ∙ (λ i. cond (is_under (heading_of row) q) (with_place place (are q i)) (are q i)) ∙ sym (places_more (λ r. is_under (heading_of r) q) rows row place e)

-- a heading that says the same tells the same rows
same_rows : (row r : Row) (q : Heading) → is_under (key_of row) q ≡ true → is_under (key_of r) q ≡ has_key (table_of row.part) row.desk row.reference r
same_rows row r q e = ap is_eq (sym (alike_right heading_total (key_of row) q (key_of r) ((Equal-is (heading_cmp (key_of row) q)).0 e))) ∙ sym (key_tells (table_of row.part) row.desk row.reference r)

keyed : (old new : BTreeMap Heading ℕ) (rows : List Row) (row : Row) (place : ℕ) → place ≡ length rows → kept_row row rows ≡ None → Enters (key_of row) place old new → AreKeyed old rows → AreKeyed new (rows ++ row ∷ [])
keyed old new rows row place e none becomes are = λ q.
    becomes q ∙ (λ i. cond (is_under (key_of row) q) (Some place) (are q i))
    ∙ sym (position_more (λ r. is_under (key_of r) q) rows row place e (λ same. no_position (λ r. is_under (key_of r) q) rows ((λ i. find (λ r. same_rows row r q same i) rows) ∙ none)))

pub index_more : (old new : Index) (rows : List Row) (row : Row) (place : ℕ) → place ≡ length rows → kept_row row rows ≡ None
    → Enters (key_of row) place old.keys.places new.keys.places
    → Becomes (with_place place) (desk_of row) old.desks.lists new.desks.lists → Becomes (with_place place) (holder_of row) old.holders.lists new.holders.lists → IsIndex old rows → IsIndex new (rows ++ row ∷ [])
index_more old new rows row place e none keys desks holders is = record {
  keys = keyed old.keys.places new.keys.places rows row place e none keys is.keys;
  desks = filed desk_of old.desks.lists new.desks.lists rows row place e desks is.desks;
  holders = filed holder_of old.holders.lists new.holders.lists rows row place e holders is.holders;
}

pub index_stays : (old new : Index) (rows : List Row) → StayPlaces old.keys.places new.keys.places → StayLists old.desks.lists new.desks.lists → StayLists old.holders.lists new.holders.lists → IsIndex old rows → IsIndex new rows
index_stays old new rows keys desks holders is = record {
  keys = λ q. keys q ∙ is.keys q;
  desks = λ q. desks q ∙ is.desks q;
  holders = λ q. holders q ∙ is.holders q;
}

-- the places are entered in lists and taken out again, since the key could not be entered
pub index_undone : (old mid new : Index) (row : Row) (place : ℕ)
    → StayPlaces old.keys.places mid.keys.places → new.keys ≡ mid.keys
    → Becomes (with_place place) (desk_of row) old.desks.lists mid.desks.lists → Becomes (with_place place) (holder_of row) old.holders.lists mid.holders.lists
    → Becomes without_last (desk_of row) mid.desks.lists new.desks.lists → Becomes without_last (holder_of row) mid.holders.lists new.holders.lists
    → (rows : List Row) → IsIndex old rows → IsIndex new rows
index_undone old mid new row place stay same desks holders desks' holders' rows is =
    index_stays old new rows (λ q. ap (λ k. get heading_cmp k.places q) same ∙ stay q)
    (taken_out place (desk_of row) old.desks.lists mid.desks.lists new.desks.lists desks desks')
    (taken_out place (holder_of row) old.holders.lists mid.holders.lists new.holders.lists holders holders') is

-- ---- a row settled

module _ (desk : ℕ) (reference : List ℕ) (settled : Settled) where
  key_stays : (row : Row) → SameKey desk reference settled (now desk reference settled row) row
  key_stays row = keeps_key desk reference settled (has_key Own desk reference row) row

  pub index_settled : (index : Index) (rows : List Row) → IsIndex index rows → IsIndex index (settled_rows desk reference settled rows)
  index_settled index rows is = record {
    keys = λ q. is.keys q ∙ sym (position_mapped (λ r. is_under (key_of r) q) (now desk reference settled) (λ row. let k = key_stays row in λ i. is_under (heading (k.table i) (k.at_desk i) (k.named i)) q) rows);
    desks = λ q. is.desks q ∙ sym (places_mapped (λ r. is_under (desk_of r) q) (now desk reference settled) (λ row. let k = key_stays row in λ i. is_under (heading (k.table i) (k.at_desk i) []) q) rows);
    holders = λ q. is.holders q ∙ sym (places_mapped (λ r. is_under (holder_of r) q) (now desk reference settled) (λ row. let k = key_stays row in λ i. is_under (heading (k.table i) (k.at_desk i) (holder_part (k.named i))) q) rows);
  }

  pub settles_index : {U : Type 0} (index : Index) (old new : List Row) (result : Result U KeepRefusal) → IsIndex index old → Settles old new desk reference settled result → IsIndex index new
  settles_index index old new result is told = settles_keeps desk reference settled (IsIndex index) old is (index_settled index old is) new result told
