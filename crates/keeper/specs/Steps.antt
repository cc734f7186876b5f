-- The steps of a keeper over a plain list (this project's own).
use Rattle.std.specs.Prelude.{◌≡◌, ◌≤◌, length, ℕ, List, Bool, true, ◌&&◌, Some, None, Ok, Err}
use Rattle.std.specs.declared.result.Result.{Result}
use Rattle.keeper.specs.declared.rows.Row.{Row}
use Rattle.keeper.specs.declared.rows.Table.{Table}
use Rattle.keeper.specs.declared.rows.Table.TheVariants.{Own}
use Rattle.keeper.specs.declared.keeping.KeepRefusal.{KeepRefusal}
use Rattle.keeper.specs.declared.keeping.KeepRefusal.TheVariants.{Failed, Full, Twice, Absent, NoMemory}
use Rattle.keeper.specs.Rows.{is_of, is_of_holder, row_at, kept_row, rows_beside, most_rows, is_settled}
use Rattle.keeper.specs.Keeping.{MayAdd, MaySettle}

-- a row of this table and desk, and of this holder
abbrev pub is_held : Table → ℕ → List ℕ → Row → Bool
is_held table desk holder row = is_of table desk row && is_of_holder holder row

-- whether a row may be added, or why it can't be
abbrev pub Addable : {U : Type 0} → List Row → Row → Result U KeepRefusal → Type 0
Addable rows row (Ok u) = MayAdd rows row
Addable rows row (Err Failed) = ⊥
Addable rows row (Err Full) = (kept_row row rows ≡ None) × (most_rows ≤ length (rows_beside row rows))
Addable rows row (Err (Twice kept)) = kept_row row rows ≡ Some kept
Addable rows row (Err Absent) = ⊥
Addable rows row (Err NoMemory) = Unit {0}

-- whether a row waits for its certificate, or why it can't be given one
abbrev pub Waits : {U : Type 0} → List Row → ℕ → List ℕ → Result U KeepRefusal → Type 0
Waits rows desk reference (Ok u) = MaySettle rows desk reference
Waits rows desk reference (Err Failed) = ⊥
Waits rows desk reference (Err Full) = ⊥
Waits rows desk reference (Err (Twice kept)) = (row_at Own desk reference rows ≡ Some kept) × (is_settled kept.part ≡ true)
Waits rows desk reference (Err Absent) = row_at Own desk reference rows ≡ None
Waits rows desk reference (Err NoMemory) = Unit {0}

-- the answer of a call that fails after its change, or wants memory for it
abbrev pub failed_after : {U : Type 0} → Result U KeepRefusal → Result U KeepRefusal
failed_after (Ok u) = Err Failed
failed_after (Err Failed) = Err Failed
failed_after (Err Full) = Err Failed
failed_after (Err (Twice kept)) = Err Failed
failed_after (Err Absent) = Err Failed
failed_after (Err NoMemory) = Err NoMemory
