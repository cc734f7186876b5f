-- What the calls of a keeper do to the list of its rows (this project's own).
use Rattle.std.specs.Prelude.{◌≡◌, ◌≢◌, ◌⊎◌, ℕ, ◌<◌, ◌≤◌, true, false, List, [], ◌∷◌, ◌++◌, length, Some, None, Ok, Err, IfSome}
use Rattle.std.specs.List.{All}
use Rattle.std.specs.declared.option.Option.{Option}
use Rattle.std.specs.declared.result.Result.{Result}
use Rattle.eac_base.specs.Causes.{Rose}
use Rattle.keeper.specs.declared.rows.Row.{Row}
use Rattle.keeper.specs.declared.rows.Settled.{Settled}
use Rattle.keeper.specs.declared.rows.Table.{Table}
use Rattle.keeper.specs.declared.rows.Table.TheVariants.{Own}
use Rattle.keeper.specs.declared.keeping.KeepRefusal.{KeepRefusal}
use Rattle.keeper.specs.declared.keeping.KeepRefusal.TheVariants.{Failed, Full, Twice, Absent, NoMemory}
use Rattle.keeper.specs.Rows.{table_of, is_of, has_key, is_of_holder, row_at, rows_of, holder_rows, kept_row, rows_beside, is_settled, settled_rows, most_rows, IsStorable}

-- ---- adding

-- the row may be added: its key is new, and its desk has room in its table
pub record MayAdd (rows : List Row) (row : Row) : Type 0 where
  pub new : kept_row row rows ≡ None
  pub room : length (rows_beside row rows) < most_rows

-- an adding, by the rows before and after it
abbrev pub Adds : {U : Type 0} → List Row → List Row → Row → Result U KeepRefusal → Type 0
Adds old new row (Ok u) = MayAdd old row × (new ≡ old ++ row ∷ [])
Adds old new row (Err Failed) = (new ≡ old) ⊎ (MayAdd old row × (new ≡ old ++ row ∷ []))
Adds old new row (Err Full) = (new ≡ old) × (kept_row row old ≡ None) × (most_rows ≤ length (rows_beside row old))
Adds old new row (Err (Twice kept)) = (new ≡ old) × (kept_row row old ≡ Some kept)
Adds old new row (Err Absent) = ⊥
Adds old new row (Err NoMemory) = new ≡ old

-- a row of this key, as it may be added
abbrev pub IsAsked : Table → ℕ → List ℕ → Row → Type 0
IsAsked table desk reference row = (has_key table desk reference row ≡ true) × IsStorable row

-- what any keeper answers to an adding: the row that it gives has the key
abbrev pub AddAsked : {U : Type 0} → Row → Result U KeepRefusal → Type 0
AddAsked row (Ok u) = Unit {0}
AddAsked row (Err Failed) = Unit {0}
AddAsked row (Err Full) = Unit {0}
AddAsked row (Err (Twice kept)) = IsAsked (table_of row.part) row.desk row.reference kept
AddAsked row (Err Absent) = ⊥
AddAsked row (Err NoMemory) = Unit {0}

-- ---- settling

-- an own row of this key is there and waits for its certificate
pub record MaySettle (rows : List Row) (desk : ℕ) (reference : List ℕ) : Type 0 where
  pub row : Row
  pub there : row_at Own desk reference rows ≡ Some row
  pub waits : is_settled row.part ≡ false

-- a settling, by the rows before and after it
abbrev pub Settles : {U : Type 0} → List Row → List Row → ℕ → List ℕ → Settled → Result U KeepRefusal → Type 0
Settles old new desk reference settled (Ok u) = MaySettle old desk reference × (new ≡ settled_rows desk reference settled old)
Settles old new desk reference settled (Err Failed) = (new ≡ old) ⊎ (MaySettle old desk reference × (new ≡ settled_rows desk reference settled old))
Settles old new desk reference settled (Err Full) = ⊥
Settles old new desk reference settled (Err (Twice kept)) = (new ≡ old) × (row_at Own desk reference old ≡ Some kept) × (is_settled kept.part ≡ true)
Settles old new desk reference settled (Err Absent) = (new ≡ old) × (row_at Own desk reference old ≡ None)
Settles old new desk reference settled (Err NoMemory) = new ≡ old

-- what any keeper answers to a settling: the row that it gives is an own row of the key
abbrev pub SettleAsked : {U : Type 0} → ℕ → List ℕ → Result U KeepRefusal → Type 0
SettleAsked desk reference (Ok u) = Unit {0}
SettleAsked desk reference (Err Failed) = Unit {0}
SettleAsked desk reference (Err Full) = ⊥
SettleAsked desk reference (Err (Twice kept)) = IsAsked Own desk reference kept
SettleAsked desk reference (Err Absent) = Unit {0}
SettleAsked desk reference (Err NoMemory) = Unit {0}

-- ---- reading

-- a reading is refused only for a fault and for want of memory
abbrev pub ReadingRefused : KeepRefusal → Type 0
ReadingRefused Failed = Unit {0}
ReadingRefused Full = ⊥
ReadingRefused (Twice kept) = ⊥
ReadingRefused Absent = ⊥
ReadingRefused NoMemory = Unit {0}

-- a reading gives this, where it isn't refused
abbrev pub Gives : {T : Type 0} → T → Result T KeepRefusal → Type 0
Gives said (Ok given) = given ≡ said
Gives said (Err refusal) = Unit {0}

-- what any keeper answers to a reading: what it gives is as was asked
abbrev pub IsGivenAs : {T : Type 0} → (T → Type 0) → Result T KeepRefusal → Type 0
IsGivenAs asked (Ok given) = asked given
IsGivenAs asked (Err refusal) = ReadingRefused refusal

-- a look for a key
abbrev pub Finds : List Row → Table → ℕ → List ℕ → Result (Option Row) KeepRefusal → Type 0
Finds rows table desk reference result = Gives (row_at table desk reference rows) result

abbrev pub FindAsked : Table → ℕ → List ℕ → Result (Option Row) KeepRefusal → Type 0
FindAsked table desk reference result = IsGivenAs (λ found. IfSome found (IsAsked table desk reference)) result

-- the rows of a desk in a table, in the order of adding
abbrev pub ListsDesk : List Row → Table → ℕ → Result (List Row) KeepRefusal → Type 0
ListsDesk rows table desk result = Gives (rows_of table desk rows) result

-- a row of this table and desk, as it may be added
abbrev pub IsDeskRow : Table → ℕ → Row → Type 0
IsDeskRow table desk row = (is_of table desk row ≡ true) × IsStorable row

abbrev pub DeskAsked : Table → ℕ → Result (List Row) KeepRefusal → Type 0
DeskAsked table desk result = IsGivenAs (All (IsDeskRow table desk)) result

-- those of a holder
abbrev pub ListsHolder : List Row → Table → ℕ → List ℕ → Result (List Row) KeepRefusal → Type 0
ListsHolder rows table desk holder result = Gives (holder_rows table desk holder rows) result

-- a row of this table and desk and of this holder, as it may be added
abbrev pub IsHolderRow : Table → ℕ → List ℕ → Row → Type 0
IsHolderRow table desk holder row = (is_of_holder holder row ≡ true) × IsDeskRow table desk row

abbrev pub HolderAsked : Table → ℕ → List ℕ → Result (List Row) KeepRefusal → Type 0
HolderAsked table desk holder result = IsGivenAs (All (IsHolderRow table desk holder)) result

-- how many rows a desk has in a table
abbrev pub Counts : List Row → Table → ℕ → Result ℕ KeepRefusal → Type 0
Counts rows table desk result = Gives (length (rows_of table desk rows)) result

abbrev pub CountAsked : Result ℕ KeepRefusal → Type 0
CountAsked result = IsGivenAs (λ count. Unit {0}) result

-- ---- faults

-- the count of faults has not fallen, `Failed` came only where it rose, and any other answer leaves it
pub record FaultRose {T : Type 0} (before now : ℕ) (result : Result T KeepRefusal) : Type 0 where
  pub later : before ≤ now
  pub failed : result ≡ Err Failed → Rose before now
  pub quiet : result ≢ Err Failed → now ≡ before
