-- Rows that are told while a store is clean (this project's own).
use Rattle.std.specs.Prelude.{Bool, true, false, List, Some, None, IfSome}
use Rattle.std.specs.declared.option.Option.{Option}
use Rattle.keeper.specs.declared.rows.Row.{Row}
use Rattle.keeper.specs.Rows.{UniqueKeys}
use Rattle.keeper.specs.Planned.{KeeperValue}

-- A keeper in memory, and whether its rows are told.
pub record FadingValue : Type 0 where
  pub kept : KeeperValue
  pub clean : Bool

abbrev pub told_if : Bool → List Row → Option (List Row)
told_if true rows = Some rows
told_if false rows = None

pub told_unique : (clean : Bool) (rows : List Row) → UniqueKeys rows → IfSome (told_if clean rows) UniqueKeys
told_unique true rows u = u
told_unique false rows u = tt
