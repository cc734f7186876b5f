-- What a keeper over a connection shows (this project's own).
use Rattle.std.specs.Prelude.{ℕ, List, Option}
use Rattle.sqlite_trees.specs.declared.store.Store.{Ghosts}
use Rattle.sqlite.specs.Held.{state}
use Rattle.keeper.specs.declared.rows.Row.{Row}
use Rattle.keeper_sqlite.specs.Sound.{told_rows}
use Rattle.keeper_sqlite.specs.declared.store.SqliteKeeper.{SqliteKeeper}

-- the rows, where it tells them
abbrev pub rows : {S : Type 0} {g : Ghosts S} → SqliteKeeper S g → Option (List Row)
rows {S} {g} k = told_rows k.known (state g k.conn)

-- how often a call of it has failed
abbrev pub faults : {S : Type 0} {g : Ghosts S} → SqliteKeeper S g → ℕ
faults k = k.faults
