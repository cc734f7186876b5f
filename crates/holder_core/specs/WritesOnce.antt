-- A call that writes to the keeper once at most, as its last outside call (this project's own).
use Rattle.std.specs.Prelude.{◌≡◌, ◌⊎◌, ℕ, List, Option, Some, None, Result, Ok, Err}
use Rattle.keeper.specs.declared.rows.Row.{Row}
use Rattle.holder_core.specs.declared.fault.HolderFault.{HolderFault}
use Rattle.holder_core.specs.declared.fault.HolderFault.TheVariants as fault

-- The answer that is due before anything is signed or written, if there is one; the row of the key to sign with, if it
-- wasn't held; the answer that is due where the key of the row to be added is there; and what may be answered with a write,
-- and the rows that it leaves.
module _ {A : Type 0} (unwritten : Option A) (missing : Option (List ℕ)) (late : Option A) (Written : A → List Row → Type 0) where
  -- the write took place
  pub record HasWritten (after : List Row) (answer : A) : Type 0 where
    pub due : unwritten ≡ None
    pub new : late ≡ None
    pub written : Written answer after

  -- nothing was written, since the key is there
  pub record IsLate (answer : A) : Type 0 where
    pub due : unwritten ≡ None
    pub there : late ≡ Some answer

  -- a write that failed may have taken place
  abbrev pub MayHaveWritten : List Row → List Row → Type 0
  MayHaveWritten before after = (after ≡ before) ⊎ ((answer : A) × HasWritten after answer)

  abbrev pub WritesOnce : List Row → List Row → Result A HolderFault → Type 0
  WritesOnce before after (Ok answer) = (((unwritten ≡ Some answer) ⊎ IsLate answer) × (after ≡ before)) ⊎ HasWritten after answer
  WritesOnce before after (Err fault.KeeperFault) = MayHaveWritten before after
  WritesOnce before after (Err fault.ProviderFault) = after ≡ before
  WritesOnce before after (Err fault.NoMemory) = after ≡ before
  WritesOnce before after (Err (fault.NoKey reference)) = (unwritten ≡ None) × (missing ≡ Some reference) × (after ≡ before)
