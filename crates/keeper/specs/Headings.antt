-- What rows are filed under, and where they stand in their list (this project's own).
use Rattle.std.specs.Prelude.{◌≡◌, ℕ, ◌+◌, Bool, List, [], ◌∷◌, ◌++◌, Some, if◌then◌else◌, ◌-◌, take, length, refl}
use Rattle.std.specs.declared.cmp.Ordering.{Ordering}
use Rattle.std.specs.Ordering.{nat_cmp, is_eq, ordering_then, eq_by_cmp}
use Rattle.std.specs.Cmp.{IsTotalOrder, IsEquivalence, IsPartialOrder, on_total, then_total, nat_cmp_total, eq_by_cmp_equiv, po}
use Rattle.std.specs.Cmp.Lexicographic.{slice_cmp, nat_list_cmp_total}
use Rattle.std.specs.Option.{unwrap_or}
use Rattle.std.specs.BTreeMap.{BTreeMap, get}
use Rattle.holder_reference.specs.Reference.{holder_part}
use Rattle.keeper.specs.declared.rows.Row.{Row}
use Rattle.keeper.specs.declared.rows.Table.{Table}
use Rattle.keeper.specs.Rows.{table_of, kind_of}

-- ---- headings

-- a table by its number, a desk, and the bytes of a name under them
pub record Heading : Type 0 where
  pub kind : ℕ
  pub desk : ℕ
  pub bytes : List ℕ

abbrev pub heading_cmp : Heading → Heading → Ordering
heading_cmp a b = ordering_then (ordering_then (nat_cmp a.kind b.kind) (nat_cmp a.desk b.desk)) (slice_cmp nat_cmp a.bytes b.bytes)

pub heading_total : IsTotalOrder heading_cmp
heading_total = then_total (then_total (on_total (λ (a : Heading). a.kind) nat_cmp_total) (on_total (λ (a : Heading). a.desk) nat_cmp_total)) (on_total (λ (a : Heading). a.bytes) nat_list_cmp_total)

pub heading_equiv : IsEquivalence (eq_by_cmp heading_cmp)
heading_equiv = eq_by_cmp_equiv heading_total

pub heading_po : IsPartialOrder (eq_by_cmp heading_cmp) (λ a b. Some (heading_cmp a b))
heading_po = po heading_total (λ a b. refl)

-- both say the same
abbrev pub is_under : Heading → Heading → Bool
is_under a b = is_eq (heading_cmp a b)

abbrev pub heading : Table → ℕ → List ℕ → Heading
heading table desk bytes = record { kind = kind_of table; desk = desk; bytes = bytes }

-- a row's desk, its holder and its key
abbrev pub desk_of : Row → Heading
desk_of row = heading (table_of row.part) row.desk []

abbrev pub holder_of : Row → Heading
holder_of row = heading (table_of row.part) row.desk (holder_part row.reference)

abbrev pub key_of : Row → Heading
key_of row = heading (table_of row.part) row.desk row.reference

-- ---- places in a list

-- the places of the rows that pass, where the first row has the place n
abbrev pub places_from : (Row → Bool) → ℕ → List Row → List ℕ
places_from p n [] = []
places_from p n (row ∷ rows) = if p row then n ∷ places_from p (n + 1) rows else places_from p (n + 1) rows

abbrev pub places_of : (Row → Bool) → List Row → List ℕ
places_of p rows = places_from p 0 rows

-- ---- places under headings

-- the key has got this place, and the others stay
abbrev pub Enters : Heading → ℕ → BTreeMap Heading ℕ → BTreeMap Heading ℕ → Type 0
Enters key place old new = (q : Heading) → get heading_cmp new q ≡ (if is_under key q then Some place else get heading_cmp old q)

abbrev pub StayPlaces : BTreeMap Heading ℕ → BTreeMap Heading ℕ → Type 0
StayPlaces old new = (q : Heading) → get heading_cmp new q ≡ get heading_cmp old q

abbrev pub list_at : BTreeMap Heading (List ℕ) → Heading → List ℕ
list_at lists q = unwrap_or (get heading_cmp lists q) []

-- the list under a heading has become this of it, and the others stay
abbrev pub Becomes : (List ℕ → List ℕ) → Heading → BTreeMap Heading (List ℕ) → BTreeMap Heading (List ℕ) → Type 0
Becomes f heading old new = (q : Heading) → list_at new q ≡ (if is_under heading q then f (list_at old q) else list_at old q)

abbrev pub with_place : ℕ → List ℕ → List ℕ
with_place place places = places ++ place ∷ []

abbrev pub without_last : List ℕ → List ℕ
without_last places = take (length places - 1) places

abbrev pub StayLists : BTreeMap Heading (List ℕ) → BTreeMap Heading (List ℕ) → Type 0
StayLists old new = (q : Heading) → list_at new q ≡ list_at old q
