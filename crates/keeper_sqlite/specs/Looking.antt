-- What the database answers, read as rows (this project's own).
use Rattle.std.specs.Prelude.{◌≡◌, ℕ, List, Option, Some, None, option_map, if◌then◌else◌}
use Rattle.eac_base.specs.Answers.{◌gives◌}
use Rattle.holder_reference.specs.Reference.{is_reference}
use Rattle.sqlite.specs.Order.{Row as SqlRow, column}
use Rattle.keeper.specs.declared.rows.Row.{Row}
use Rattle.keeper.specs.declared.rows.Part.{Part}
use Rattle.keeper.specs.declared.rows.Table.{Table}
use Rattle.keeper_sqlite.specs.ReadingOrder.{read_stored}
use Rattle.keeper_sqlite.specs.ToldRows.{bytes_in}

-- the part of this table whose stored form stands in the second column
abbrev pub part_of : Table → SqlRow → Option Part
part_of table given = bytes_in (column given 1) gives read_stored table

-- the row of this table and desk, by the reference in the first column
abbrev pub row_of : Table → ℕ → SqlRow → Option Row
row_of table desk given = bytes_in (column given 0) gives λ reference.
    if is_reference reference
    then option_map (λ part. record { desk = desk; reference = reference; part = part }) (part_of table given)
    else None

-- the row of this key whose part stands in the second column
pub record IsReadFrom (table : Table) (desk : ℕ) (reference : List ℕ) (given : SqlRow) (found : Option Row)
    : Type 0 where
  pub part : Part
  pub reads : part_of table given ≡ Some part
  pub is : found ≡ Some (record { desk = desk; reference = reference; part = part })
