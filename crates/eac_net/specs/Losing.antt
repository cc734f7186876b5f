-- Pairs of key and text that a call signed and added no row for (this project's own).
use Rattle.std.specs.Prelude.{◌≡◌, ◌⊎◌, List, [], ◌∷◌, Option, Some, None, Result, Ok, Err}
use Rattle.signature_provider.specs.Provider.{Holds, MakesKey}
use Rattle.signature_provider.specs.declared.key.Key.{Key}
use Rattle.issue_core.specs.Issuing.Signed.{Pair}
use Rattle.holder_core.specs.declared.fault.HolderFault.{HolderFault}
use Rattle.holder_core.specs.declared.fault.HolderFault.TheVariants as fault
use Rattle.cvca_desk.specs.Signing.{own_pair}
use Rattle.cvca_desk.specs.declared.due.Due.{Due}

-- those of one event: lost with a fault of the keeper, dropped in want of memory
pub record Losing : Type 0 where
  pub lost : List Pair
  pub dropped : List Pair

abbrev pub nothing_lost : Losing
nothing_lost = record { lost = []; dropped = [] }

-- what becomes of a pair that was signed: it has its row, it is lost, or it is dropped
pub data Fate : Type 0 where
  IsKept : Fate
  IsLost : Fate
  IsDropped : Fate

-- by the result of a party's call
abbrev pub fate_of : {A : Type 0} → Result A HolderFault → Fate
fate_of (Ok answer) = IsKept
fate_of (Err fault.KeeperFault) = IsLost
fate_of (Err fault.ProviderFault) = IsKept
fate_of (Err (fault.NoKey reference)) = IsKept
fate_of (Err fault.NoMemory) = IsDropped

-- Where it isn't kept, one pair at most has no row, and it was due.
abbrev pub Loses : (Pair → Type 0) → Fate → Losing → Type 0
Loses IsDue IsKept l = l ≡ nothing_lost
Loses IsDue IsLost l = (l ≡ nothing_lost) ⊎ ((pair : Pair) × IsDue pair × (l ≡ record { lost = pair ∷ []; dropped = [] }))
Loses IsDue IsDropped l = (l ≡ nothing_lost) ⊎ ((pair : Pair) × IsDue pair × (l ≡ record { lost = []; dropped = pair ∷ [] }))

-- The pair of an authority's own certificate: nothing was to be refused, and its body is the one that is due for a key that
-- was made for it.
pub record IsOwnDue {A : Type 0} (refused : Option A) (due : Option Due) (held holds : Holds) (pair : Pair) : Type 0 where
  pub allowed : refused ≡ None
  pub d : Due
  pub due_is : due ≡ Some d
  pub key : Key
  pub made : MakesKey held holds d.form key
  pub pair_is : pair ≡ own_pair d key
