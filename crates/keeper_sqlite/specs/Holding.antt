-- A store that is told, by its entries and its rows, and what a call does to the rows (this project's own).
use Rattle.std.specs.Prelude.{◌≡◌, List, Result, Ok, Err}
use Rattle.sqlite.specs.State.{State}
use Rattle.keeper.specs.declared.rows.Row.{Row}
use Rattle.keeper.specs.Rows.{UniqueKeys}
use Rattle.keeper_sqlite.specs.Kept.{Entry, IsTold, HoldsRows}
use Rattle.keeper_sqlite.specs.ToldRows.{Stores}

-- the store holds these rows
pub record Holding (s : State) (rows : List Row) : Type 0 where
  pub entries : List Entry
  pub holds : HoldsRows entries s
  pub stores : Stores entries rows
  pub unique : UniqueKeys rows

-- the store holds rows of which this is said
pub record Reaches (s : State) (Q : List Row → Type 0) : Type 0 where
  pub after : List Row
  pub holds : Holding s after
  pub does : Q after

-- What is told after a call was told before it, and its rows before and after it stand in this relation.
pub record Leads (old new : State) (P : List Row → List Row → Type 0) : Type 0 where
  pub told : IsTold new → IsTold old
  pub rows : IsTold new → (rows : List Row) → Holding old rows → Reaches new (P rows)

-- the rows are changed so where the call isn't refused, and else they are as before
abbrev pub Changes : {U E : Type 0} → List Row → List Row → List Row → Result U E → Type 0
Changes before changed after (Ok u) = after ≡ changed
Changes before changed after (Err e) = after ≡ before
