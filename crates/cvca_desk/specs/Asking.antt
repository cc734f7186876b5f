-- What an authority asks of its provider for a certificate of its own, whatever its keeper is (this project's own).
use Rattle.std.specs.Prelude.{◌≡◌, ◌⊎◌, ℕ, List, Option, Some, None, Result, Ok, Err}
use Rattle.signature_provider.specs.Provider.{Says, Holds, Signed}
use Rattle.holder_core.specs.Signers.{missing_of}
use Rattle.holder_core.specs.declared.fault.HolderFault.{HolderFault}
use Rattle.holder_core.specs.declared.fault.HolderFault.TheVariants as fault
use Rattle.cvca_desk.specs.declared.due.Due.{Due}
use Rattle.cvca_desk.specs.Signing.{SignsNew, SignsPair}

-- What is answered where the row is new, by its reference, and where it is there or has no room.
module _ {A : Type 0} (New : List ℕ → A) (Gone : A) (says : Says) (held holds : Holds) (signed : Signed × Signed) where
  -- ---- what is due is made

  -- A new row has its certificate. What was signed is lost where the keeper says that the row is there or has no room, where
  -- its adding failed, and where memory was wanting. Else nothing was signed.
  abbrev pub AsksDue : Due → Result A HolderFault → Type 0
  AsksDue d (Ok answer) = ((answer ≡ New d.reference) × SignsNew says held holds signed d) ⊎ ((answer ≡ Gone) × SignsPair held holds signed d)
  AsksDue d (Err fault.KeeperFault) = SignsPair held holds signed d
  AsksDue d (Err fault.NoMemory) = (signed.1 ≡ signed.0) ⊎ SignsPair held holds signed d
  AsksDue d (Err fault.ProviderFault) = signed.1 ≡ signed.0
  AsksDue d (Err (fault.NoKey reference)) = (signed.1 ≡ signed.0) × (missing_of held d.by ≡ Some reference)

  -- ---- a call

  -- it ended by the first refusal, or while the keeper was asked for what decides it
  abbrev pub EndsUnasked : Option A → Result A HolderFault → Type 0
  EndsUnasked unwritten (Ok answer) = unwritten ≡ Some answer
  EndsUnasked unwritten (Err fault.KeeperFault) = Unit {0}
  EndsUnasked unwritten (Err fault.NoMemory) = Unit {0}
  EndsUnasked unwritten (Err fault.ProviderFault) = ⊥
  EndsUnasked unwritten (Err (fault.NoKey reference)) = ⊥

  -- The provider was asked for nothing: no key was made, and nothing was signed.
  pub record AsksNothing (unwritten : Option A) (result : Result A HolderFault) : Type 0 where
    pub ends : EndsUnasked unwritten result
    pub held_is : holds ≡ held
    pub signed_is : signed.1 ≡ signed.0

  -- Nothing is refused, and what is due was to be made.
  pub record AsksToMake (unwritten : Option A) (due : Option Due) (result : Result A HolderFault) : Type 0 where
    pub allowed : unwritten ≡ None
    pub d : Due
    pub due_is : due ≡ Some d
    pub asks : AsksDue d result

  -- by the first refusal and by what is due
  abbrev pub AsksOwn : (unwritten : Option A) → (due : Option Due) → Result A HolderFault → Type 0
  AsksOwn unwritten due result = AsksNothing unwritten result ⊎ AsksToMake unwritten due result
