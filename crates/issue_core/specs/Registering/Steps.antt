-- The two steps of a registering: a look at the rows, and the adding (this project's own).
use Rattle.std.specs.Prelude.{◌≡◌, ◌⊎◌, ℕ, nat_le, List, [], ◌∷◌, ◌++◌, length, Some, None, Ok, Err, if◌then◌else◌}
use Rattle.std.specs.declared.option.Option.{Option}
use Rattle.std.specs.declared.result.Result.{Result}
use Rattle.keeper.specs.declared.rows.Row.{Row}
use Rattle.keeper.specs.declared.rows.Table.TheVariants.{Register as RegisterTable}
use Rattle.keeper.specs.Rows.{row_at, rows_of, most_rows}
use Rattle.keeper.specs.declared.keeping.KeepRefusal.{KeepRefusal}
use Rattle.keeper.specs.declared.keeping.KeepRefusal.TheVariants.{Failed, Full as KeeperFull, Twice, Absent, NoMemory as KeeperNoMemory}
use Rattle.issue_core.specs.declared.rule.Rule.TheVariants.{Full}
use Rattle.issue_core.specs.declared.registering.serving.RegisterAnswer.{RegisterAnswer}
use Rattle.issue_core.specs.declared.registering.serving.RegisterAnswer.TheVariants.{Issued, Refused}
use Rattle.issue_core.specs.declared.fault.IssueFault.{IssueFault}
use Rattle.issue_core.specs.declared.fault.IssueFault.TheVariants.{KeeperFault, ProviderFault, NoKey, NoMemory}
use Rattle.issue_core.specs.Registering.Desk.{again_of, day_of}

-- what is answered where no row has the reference: a full table
abbrev pub full_answer : ℕ → Option RegisterAnswer
full_answer count = if nat_le most_rows count then Some (Refused Full) else None

-- what is answered by the row of the reference
abbrev pub row_answer : Option Row → List ℕ → Option RegisterAnswer
row_answer (Some row) bytes = Some (again_of row.part bytes)
row_answer None bytes = None

-- what is answered without an adding: by the row of the reference, else by the count
abbrev pub first_answer : Option RegisterAnswer → Option RegisterAnswer → Option RegisterAnswer
first_answer (Some answer) other = Some answer
first_answer None other = other

abbrev pub looked : List Row → List ℕ → List ℕ → Option RegisterAnswer
looked rows reference bytes = first_answer (row_answer (row_at RegisterTable 0 reference rows) bytes) (full_answer (length (rows_of RegisterTable 0 rows)))

-- what an adding does to the rows, where the row may be added
abbrev pub RegisterEnters : List Row → List Row → Row → Result RegisterAnswer IssueFault → Type 0
RegisterEnters old new row (Ok (Issued day)) = (day ≡ day_of row.part) × (new ≡ old ++ row ∷ [])
RegisterEnters old new row (Ok other) = ⊥
RegisterEnters old new row (Err KeeperFault) = (new ≡ old) ⊎ (new ≡ old ++ row ∷ [])
RegisterEnters old new row (Err ProviderFault) = ⊥
RegisterEnters old new row (Err (NoKey reference)) = ⊥
RegisterEnters old new row (Err NoMemory) = new ≡ old

-- what is answered to an adding, as any keeper may answer it
abbrev pub answer_of : {U : Type 0} → Result U KeepRefusal → List ℕ → List ℕ → Result RegisterAnswer IssueFault
answer_of (Ok u) day bytes = Ok (Issued day)
answer_of (Err Failed) day bytes = Err KeeperFault
answer_of (Err KeeperFull) day bytes = Ok (Refused Full)
answer_of (Err (Twice kept)) day bytes = Ok (again_of kept.part bytes)
answer_of (Err Absent) day bytes = Err NoMemory
answer_of (Err KeeperNoMemory) day bytes = Err NoMemory
