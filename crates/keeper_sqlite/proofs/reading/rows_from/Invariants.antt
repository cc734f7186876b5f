use Rattle.std.proofs.Common.{◌≡◌, take, map, Some}
use Rattle.std.specs.List.{All}
use Rattle.keeper.specs.declared.rows.Row.{Row}
use Rattle.keeper.specs.Keeping.{IsDeskRow}
use Rattle.keeper_sqlite.specs.Looking.{row_of}
use Rattle.keeper_sqlite.proofs.reading.rows_from.Given as goal

-- the rows read so far
abbrev pub invariant-loop-stored : goal.invariant-loop-stored
invariant-loop-stored l = (map (row_of l.table l.desk) (take l.stored-index l.given) ≡ map (λ (r : Row). Some r) l.rows) × All (IsDeskRow l.table l.desk) l.rows
