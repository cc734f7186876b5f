-- The rows that a clean store tells (this project's own): what its one table stores, read back.
use Rattle.std.specs.Prelude.{◌≡◌, ℕ, ℤ, pos, negsuc, List, [], ◌∷◌, Bool, ◌&&◌, true, false, Option, Some, None, IfSome, nat_eq, if◌then◌else◌, refl}
use Rattle.std.specs.List.{list_all}
use Rattle.std.specs.Str.{bytes_eq}
use Rattle.std.specs.Ordering.{int_cmp, is_lt}
use Rattle.eac_base.specs.Answers.{◌gives◌}
use Rattle.sqlite.specs.declared.types.Value.{Value}
use Rattle.sqlite.specs.declared.types.Value.TheVariants.{Null, Int, Real, Text, Blob}
use Rattle.sqlite.specs.Order.{Row as SqlRow}
use Rattle.keeper.specs.declared.rows.Row.{Row}
use Rattle.keeper.specs.declared.rows.Part.{Part}
use Rattle.keeper.specs.declared.rows.Table.TheVariants as tables
use Rattle.keeper.specs.Rows.{are_unique, table_of, kind_of, UniqueKeys}
use Rattle.holder_reference.specs.Reference.{holder_part}
use Rattle.keeper_sqlite.specs.ReadingOrder.{read_stored}
use Rattle.keeper_sqlite.specs.Kept.{Entry, entry}

-- ---- entries of the table

abbrev pub int_in : Value → Option ℤ
int_in (Int z) = Some z
int_in Null = None
int_in (Real r) = None
int_in (Text t) = None
int_in (Blob b) = None

abbrev pub nat_in : Value → Option ℕ
nat_in (Int (pos n)) = Some n
nat_in (Int (negsuc n)) = None
nat_in Null = None
nat_in (Real r) = None
nat_in (Text t) = None
nat_in (Blob b) = None

abbrev pub bytes_in : Value → Option (List ℕ)
bytes_in (Blob b) = Some b
bytes_in Null = None
bytes_in (Int z) = None
bytes_in (Real r) = None
bytes_in (Text t) = None

abbrev pub null_in : Value → Option (Unit {0})
null_in Null = Some tt
null_in (Int z) = None
null_in (Real r) = None
null_in (Text t) = None
null_in (Blob b) = None

abbrev pub fields_in : Value → Value → Value → Value → Value → Value → Value → Option Entry
fields_in a b c d e f g = int_in a gives λ place. null_in b gives λ u. nat_in c gives λ kind. nat_in d gives λ desk.
    bytes_in e gives λ holder. bytes_in f gives λ reference. bytes_in g gives λ body.
    Some (entry place kind desk holder reference body)

abbrev pub entry_in : SqlRow → Option Entry
entry_in [] = None
entry_in (a ∷ []) = None
entry_in (a ∷ b ∷ []) = None
entry_in (a ∷ b ∷ c ∷ []) = None
entry_in (a ∷ b ∷ c ∷ d ∷ []) = None
entry_in (a ∷ b ∷ c ∷ d ∷ e ∷ []) = None
entry_in (a ∷ b ∷ c ∷ d ∷ e ∷ f ∷ []) = None
entry_in (a ∷ b ∷ c ∷ d ∷ e ∷ f ∷ g ∷ []) = fields_in a b c d e f g
entry_in (a ∷ b ∷ c ∷ d ∷ e ∷ f ∷ g ∷ h ∷ more) = None

abbrev pub onto : {A : Type 0} → Option A → Option (List A) → Option (List A)
onto None xs = None
onto (Some x) None = None
onto (Some x) (Some xs) = Some (x ∷ xs)

abbrev pub entries_in : List SqlRow → Option (List Entry)
entries_in [] = Some []
entries_in (r ∷ rs) = onto (entry_in r) (entries_in rs)

-- their places rise
abbrev pub rise : List Entry → Bool
rise [] = true
rise (e ∷ es) = list_all (λ x. is_lt (int_cmp e.place x.place)) es && rise es

-- ---- rows

-- the part that a body of this kind stores
abbrev pub part_in : ℕ → List ℕ → Option Part
part_in kind body = if nat_eq kind 0 then read_stored tables.Register body
    else (if nat_eq kind 1 then read_stored tables.Issued body
    else (if nat_eq kind 2 then read_stored tables.Own body
    else (if nat_eq kind 3 then read_stored tables.Ca body else None)))

abbrev pub row_of_part : Entry → Part → Option Row
row_of_part e part = if nat_eq (kind_of (table_of part)) e.kind && bytes_eq e.holder (holder_part e.reference)
    then Some (record { desk = e.desk; reference = e.reference; part = part }) else None

abbrev pub row_for : Entry → Option Row
row_for e = part_in e.kind e.body gives row_of_part e

abbrev pub rows_for : List Entry → Option (List Row)
rows_for [] = Some []
rows_for (e ∷ es) = onto (row_for e) (rows_for es)

-- told only where no two of them have one key
abbrev pub if_unique : List Row → Option (List Row)
if_unique rows = if are_unique rows then Some rows else None

abbrev pub if_rising : List Entry → Option (List Row)
if_rising es = if rise es then (rows_for es gives if_unique) else None

-- the rows that the rows of the table store
abbrev pub listed : List SqlRow → Option (List Row)
listed rs = entries_in rs gives if_rising

-- no two of them have one key
unique_if : (b : Bool) (rows : List Row) → are_unique rows ≡ b → IfSome (if b then Some rows else None) UniqueKeys
unique_if true rows e = e
unique_if false rows e = tt

unique_rows : (o : Option (List Row)) → IfSome (o gives if_unique) UniqueKeys
unique_rows None = tt
unique_rows (Some rows) = unique_if (are_unique rows) rows refl

unique_rising : (b : Bool) (es : List Entry) → IfSome (if b then (rows_for es gives if_unique) else None) UniqueKeys
unique_rising true es = unique_rows (rows_for es)
unique_rising false es = tt

unique_entries : (o : Option (List Entry)) → IfSome (o gives if_rising) UniqueKeys
unique_entries None = tt
unique_entries (Some es) = unique_rising (rise es) es

pub listed_unique : (rs : List SqlRow) → IfSome (listed rs) UniqueKeys
listed_unique rs = unique_entries (entries_in rs)

-- the entry stores the row
pub record StoredAs (e : Entry) (row : Row) : Type 0 where
  pub kind : e.kind ≡ kind_of (table_of row.part)
  pub desk : e.desk ≡ row.desk
  pub holder : e.holder ≡ holder_part row.reference
  pub reference : e.reference ≡ row.reference
  pub body : read_stored (table_of row.part) e.body ≡ Some row.part

abbrev pub Stores : List Entry → List Row → Type 0
Stores [] [] = Unit {0}
Stores (e ∷ es) (row ∷ rows) = StoredAs e row × Stores es rows
Stores [] (row ∷ rows) = ⊥
Stores (e ∷ es) [] = ⊥
