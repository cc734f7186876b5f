-- What a search for a chain among a keeper's rows answers, and why (this project's own).
use Rattle.std.specs.Prelude.{◌≡◌, ◌≢◌, ℕ, ◌≤◌, List, Some, None, Result, Ok, Err}
use Rattle.std.specs.List.{All}
use Rattle.eac_base.specs.Causes.{Rose}
use Rattle.keeper.specs.declared.rows.Row.{Row}
use Rattle.keeper.specs.declared.rows.Table.TheVariants as table
use Rattle.keeper.specs.Keeping.{IsDeskRow}
use Rattle.keeper.specs.declared.keeping.KeepRefusal.{KeepRefusal}
use Rattle.keeper.specs.declared.keeping.KeepRefusal.TheVariants as keeping
use Rattle.terminal_desk.specs.declared.chain.ChainRefusal.{ChainRefusal}
use Rattle.terminal_desk.specs.declared.chain.ChainRefusal.TheVariants as chain
use Rattle.terminal_desk.specs.Chain.{HasDue}
use Rattle.terminal_desk.specs.declared.search.SearchRefusal.{SearchRefusal}
use Rattle.terminal_desk.specs.declared.search.SearchRefusal.TheVariants.{NoChain, KeeperFault, NoMemory}

-- by the desk's own rows and its rows of authorities
abbrev pub Searches : (cars : List (List ℕ)) → (own cas : List Row) → Result (List (List ℕ)) SearchRefusal → Type 0
Searches cars own cas (Ok chain) = HasDue cars own cas (Some chain)
Searches cars own cas (Err NoChain) = HasDue cars own cas None
Searches cars own cas (Err KeeperFault) = Unit {0}
Searches cars own cas (Err NoMemory) = Unit {0}

-- For every keeper, the answer is that for some rows of this desk. That this keeper gave them isn't said, but where its
-- rows are told.
pub record SearchAsked (desk : ℕ) (cars : List (List ℕ)) (result : Result (List (List ℕ)) SearchRefusal) : Type 0 where
  pub own : List Row
  pub own_asked : All (IsDeskRow table.Own desk) own
  pub cas : List Row
  pub cas_asked : All (IsDeskRow table.Ca desk) cas
  pub answers : Searches cars own cas result

-- why a search fails
pub record SearchCaused {T : Type 0} (before now : ℕ) (result : Result T SearchRefusal) : Type 0 where
  pub later : before ≤ now
  pub failed : result ≡ Err KeeperFault → Rose before now
  pub quiet : result ≢ Err KeeperFault → now ≡ before

-- ---- its steps

-- the desk's rows couldn't be read
abbrev pub IsUnread : SearchRefusal → Type 0
IsUnread NoChain = ⊥
IsUnread KeeperFault = Unit {0}
IsUnread NoMemory = Unit {0}

abbrev pub unread_for : KeepRefusal → SearchRefusal
unread_for keeping.Failed = KeeperFault
unread_for keeping.Full = NoMemory
unread_for (keeping.Twice row) = NoMemory
unread_for keeping.Absent = NoMemory
unread_for keeping.NoMemory = NoMemory

abbrev pub unbuilt_for : ChainRefusal → SearchRefusal
unbuilt_for chain.NoChain = NoChain
unbuilt_for chain.NoMemory = NoMemory
