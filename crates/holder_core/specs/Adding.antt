-- The adding of a row, as a party's calls do it (this project's own).
use Rattle.std.specs.Prelude.{◌≡◌, ◌⊎◌, ◌≤◌, List, [], ◌∷◌, ◌++◌, length, Some, None, Result, Ok, Err}
use Rattle.keeper.specs.declared.rows.Row.{Row}
use Rattle.keeper.specs.declared.keeping.KeepRefusal.{KeepRefusal}
use Rattle.keeper.specs.declared.keeping.KeepRefusal.TheVariants as refusal
use Rattle.keeper.specs.Rows.{table_of, kept_row, rows_beside, most_rows}
use Rattle.keeper.specs.Keeping.{IsAsked, MayAdd}
use Rattle.holder_core.specs.declared.fault.HolderFault.{HolderFault}
use Rattle.holder_core.specs.declared.fault.HolderFault.TheVariants as fault
use Rattle.holder_core.specs.declared.adding.Added.{Added}
use Rattle.holder_core.specs.declared.adding.Added.TheVariants as added

-- by what the keeper answers
abbrev pub added_by : {U : Type 0} → Result U KeepRefusal → Result Added HolderFault
added_by (Ok u) = Ok added.New
added_by (Err (refusal.Twice row)) = Ok (added.There row)
added_by (Err refusal.Full) = Ok added.Full
added_by (Err refusal.Failed) = Err fault.KeeperFault
added_by (Err refusal.Absent) = Err fault.NoMemory
added_by (Err refusal.NoMemory) = Err fault.NoMemory

-- over rows
abbrev pub AddsRow : Row → List Row → List Row → Result Added HolderFault → Type 0
AddsRow row before after (Ok added.New) = MayAdd before row × (after ≡ before ++ row ∷ [])
AddsRow row before after (Ok (added.There kept)) = (kept_row row before ≡ Some kept) × (after ≡ before)
AddsRow row before after (Ok added.Full) = (kept_row row before ≡ None) × (most_rows ≤ length (rows_beside row before)) × (after ≡ before)
AddsRow row before after (Err fault.KeeperFault) = (after ≡ before) ⊎ (MayAdd before row × (after ≡ before ++ row ∷ []))
AddsRow row before after (Err fault.NoMemory) = after ≡ before
AddsRow row before after (Err fault.ProviderFault) = ⊥
AddsRow row before after (Err (fault.NoKey reference)) = ⊥

-- for every keeper, the row that it says is there has the key
abbrev pub AddedAsked : Row → Added → Type 0
AddedAsked row added.New = Unit {0}
AddedAsked row (added.There kept) = IsAsked (table_of row.part) row.desk row.reference kept
AddedAsked row added.Full = Unit {0}
