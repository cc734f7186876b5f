-- What a keeper over a connection tells, and what it keeps true of a store that it tells (this project's own).
use Rattle.std.specs.Prelude.{◌≡◌, List, Bool, ◌&&◌, true, false, Option, None, is_some, nat_eq, IfSome}
use Rattle.std.specs.Coded.{→_prop, ×_prop, Coded-set, coded_bool, coded_list}
use Rattle.sqlite_value.specs.contracts.row.Row as row
use Rattle.sqlite_schema.specs.contracts.schema.Schema.{the_row}
use Rattle.sqlite_trees.specs.View.{doubt}
use Rattle.sqlite.specs.State.{State}
use Rattle.keeper.specs.declared.rows.Row.{Row}
use Rattle.keeper.specs.Rows.{UniqueKeys}
use Rattle.keeper_sqlite.specs.Kept.{whole_schema}
use Rattle.keeper_sqlite.specs.ToldRows.{listed, listed_unique}

-- The store began with rows that are known, nothing else has written, the disk returned what was written, and the store
-- is open.
abbrev pub is_told : Bool → State → Bool
is_told known s = known && (nat_eq (doubt s.is_clean) 0 && s.is_open)

abbrev pub told_if : Bool → Option (List Row) → Option (List Row)
told_if true rows = rows
told_if false rows = None

-- the rows, where they are told
unfoldable pub told_rows : Bool → State → Option (List Row)
told_rows known s = told_if (is_told known s) (listed (s.now.trees 0))

unique_told : (b : Bool) (o : Option (List Row)) → IfSome o UniqueKeys → IfSome (told_if b o) UniqueKeys
unique_told true o h = h
unique_told false o h = tt

-- no two told rows have one key
pub told_unique : (known : Bool) (s : State) → IfSome (told_rows known s) UniqueKeys
unfolding told_rows
told_unique known s = unique_told (is_told known s) (listed (s.now.trees 0)) (listed_unique (s.now.trees 0))

-- no transaction is open, the one table is there, what is seen is committed, and it can be read back
abbrev pub IsSound : State → Type 0
IsSound s = (s.in_transaction ≡ false) × ((s.now.schema ≡ whole_schema) × ((s.committed.schema ≡ whole_schema)
    × ((s.committed.trees 0 ≡ s.now.trees 0) × (is_some (listed (s.now.trees 0)) ≡ true))))

abbrev pub KeptSound : Bool → State → Type 0
KeptSound known s = is_told known s ≡ true → IsSound s

pub KeptSound-prop : (known : Bool) (s : State) → IsProp (KeptSound known s)
KeptSound-prop known s = →_prop (×_prop (Coded-set coded_bool _ _) (×_prop (Coded-set the_row.coded _ _)
    (×_prop (Coded-set the_row.coded _ _)
    (×_prop (Coded-set (coded_list row.the_row.coded) _ _) (Coded-set coded_bool _ _)))))
