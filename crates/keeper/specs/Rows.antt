-- Rows by their keys, as one list in the order of adding (this project's own).
use Rattle.std.specs.Prelude.{◌≡◌, ℕ, ◌≤◌, Bool, true, false, List, [], ◌∷◌, Some, IfSome, IsTrue, length, map, filter, not, is_some, ◌&&◌, nat_eq, if◌then◌else◌}
use Rattle.std.specs.declared.option.Option.{Option}
use Rattle.std.specs.List.{find}
use Rattle.std.specs.Str.{bytes_eq}
use Rattle.holder_reference.specs.Reference.{holder_part}
use Rattle.signature_provider.specs.declared.key.Key.{Key}
use Rattle.signature_provider.specs.Key.{is_algorithm}
use Rattle.keeper.specs.declared.rows.Row.{Row}
use Rattle.keeper.specs.declared.rows.Settled.{Settled}
use Rattle.keeper.specs.declared.rows.IssuedPart.{IssuedPart}
use Rattle.keeper.specs.declared.rows.OwnPart.{OwnPart}
use Rattle.keeper.specs.declared.rows.CaPart.{CaPart}
use Rattle.keeper.specs.declared.rows.Part.{Part}
use Rattle.keeper.specs.declared.rows.Part.TheVariants as part
use Rattle.keeper.specs.declared.rows.Table.{Table}
use Rattle.keeper.specs.declared.rows.Table.TheVariants.{Register, Issued, Own, Ca}

-- ---- keys

abbrev pub table_of : Part → Table
table_of (part.Register request day) = Register
table_of (part.Issued p) = Issued
table_of (part.Own p) = Own
table_of (part.Ca p) = Ca

-- a table's number
abbrev pub kind_of : Table → ℕ
kind_of Register = 0
kind_of Issued = 1
kind_of Own = 2
kind_of Ca = 3

abbrev pub same_table : Table → Table → Bool
same_table a b = nat_eq (kind_of a) (kind_of b)

abbrev pub is_of : Table → ℕ → Row → Bool
is_of table desk row = same_table (table_of row.part) table && nat_eq row.desk desk

abbrev pub has_key : Table → ℕ → List ℕ → Row → Bool
has_key table desk reference row = is_of table desk row && bytes_eq row.reference reference

abbrev pub is_of_holder : List ℕ → Row → Bool
is_of_holder holder row = bytes_eq (holder_part row.reference) holder

-- ---- readings, each a filter of the list

-- the row of a key
abbrev pub row_at : Table → ℕ → List ℕ → List Row → Option Row
row_at table desk reference rows = find (has_key table desk reference) rows

-- the rows of a desk in a table
abbrev pub rows_of : Table → ℕ → List Row → List Row
rows_of table desk rows = filter (is_of table desk) rows

-- those of them whose reference is one of this holder
abbrev pub holder_rows : Table → ℕ → List ℕ → List Row → List Row
holder_rows table desk holder rows = filter (is_of_holder holder) (rows_of table desk rows)

-- the row of another row's key
abbrev pub kept_row : Row → List Row → Option Row
kept_row row rows = row_at (table_of row.part) row.desk row.reference rows

-- the rows of another row's desk in its table
abbrev pub rows_beside : Row → List Row → List Row
rows_beside row rows = rows_of (table_of row.part) row.desk rows

-- ---- settling

-- the row has a certificate: an own row may wait for it
abbrev pub is_settled : Part → Bool
is_settled (part.Register request day) = false
is_settled (part.Issued p) = true
is_settled (part.Own p) = is_some p.settled
is_settled (part.Ca p) = true

-- an own part with its certificate; any other stays
abbrev pub settled_part : Settled → Part → Part
settled_part settled (part.Own p) = part.Own (record p { settled = Some settled })
settled_part settled (part.Register request day) = part.Register request day
settled_part settled (part.Issued p) = part.Issued p
settled_part settled (part.Ca p) = part.Ca p

abbrev pub with_settled : Settled → Row → Row
with_settled settled row = record row { part = settled_part settled row.part }

-- the list with the own row of this key settled
abbrev pub settled_rows : ℕ → List ℕ → Settled → List Row → List Row
settled_rows desk reference settled rows = map (λ row. if has_key Own desk reference row then with_settled settled row else row) rows

-- ---- what rows may be

-- a desk has at most so many rows in one table
abbrev pub most_rows : ℕ
most_rows = 100000

-- no two rows have one key
abbrev pub are_unique : List Row → Bool
are_unique [] = true
are_unique (row ∷ rows) = not (is_some (kept_row row rows)) && are_unique rows

abbrev pub UniqueKeys : List Row → Type 0
UniqueKeys rows = are_unique rows ≡ true

-- A row may be added where each list of its bytes has at most 65,535 bytes, and its algorithm is one below RSA or ECDSA
-- with a last number of at most 127.
pub record IsStorableKey (key : Key) : Type 0 where
  pub algorithm : IsTrue (is_algorithm key.algorithm)
  pub domain : length key.domain ≤ 65535
  pub point : length key.point ≤ 65535
  pub cofactor : length key.cofactor ≤ 65535

abbrev pub IsStorableSettled : Settled → Type 0
IsStorableSettled settled = length settled.certificate ≤ 65535

pub record IsStorableIssued (p : IssuedPart) : Type 0 where
  pub request : length p.request ≤ 65535
  pub key : IsStorableKey p.key
  pub settled : IsStorableSettled p.settled

pub record IsStorableOwn (p : OwnPart) : Type 0 where
  pub request : length p.request ≤ 65535
  pub key : IsStorableKey p.key
  pub settled : IfSome p.settled IsStorableSettled

pub record IsStorableCa (p : CaPart) : Type 0 where
  pub key : IsStorableKey p.key
  pub settled : IsStorableSettled p.settled

abbrev pub IsStorablePart : Part → Type 0
IsStorablePart (part.Register request day) = length request ≤ 65535
IsStorablePart (part.Issued p) = IsStorableIssued p
IsStorablePart (part.Own p) = IsStorableOwn p
IsStorablePart (part.Ca p) = IsStorableCa p

abbrev pub IsStorable : Row → Type 0
IsStorable row = IsStorablePart row.part
