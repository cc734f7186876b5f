-- Why a call of an issuing desk, or a step of one, got no answer, and what stays as it was (this project's own).
use Rattle.std.specs.Prelude.{◌≡◌, ◌≢◌, ℕ, ◌≤◌, List, Result, Err, IfErr, Bool, false}
use Rattle.eac_base.specs.Causes.{Rose}
use Rattle.signature_provider.specs.Provider.{Says, Holds, Signed, SaysMore, HoldsMore, KeepsHonest}
use Rattle.issue_core.specs.declared.fault.IssueFault.{IssueFault}
use Rattle.issue_core.specs.declared.fault.IssueFault.TheVariants as fault

-- ---- causes, for every keeper and provider

-- Why a fault came. Whose key is missing is said by its row's reference: of which row, each kind of call says for itself.
abbrev pub FaultCause : (missing : List ℕ → Type 0) → IssueFault → ℕ × ℕ → ℕ × ℕ → Type 0
FaultCause missing fault.KeeperFault k p = Rose k.0 k.1
FaultCause missing fault.ProviderFault k p = Rose p.0 p.1
FaultCause missing (fault.NoKey r) k p = missing r
FaultCause missing fault.NoMemory k p = Unit {0}

-- The counts haven't fallen. A fault of keeper or provider came only where its count rose, and where it didn't come, its
-- count is as before.
pub record IssueCause {T : Type 0} (missing : List ℕ → Type 0) (k p : ℕ × ℕ) (result : Result T IssueFault) : Type 0 where
  pub keeper_later : k.0 ≤ k.1
  pub provider_later : p.0 ≤ p.1
  pub failed : IfErr result (λ e. FaultCause missing e k p)
  pub keeper_quiet : result ≢ Err fault.KeeperFault → k.1 ≡ k.0
  pub provider_quiet : result ≢ Err fault.ProviderFault → p.1 ≡ p.0

-- What the provider said it still says, what it held it still holds, and it stays honest where it was.
pub record StaysTrue (said says : Says) (held holds : Holds) (was_signed signed : Signed) : Type 0 where
  pub says_more : SaysMore said says
  pub holds_more : HoldsMore held holds
  pub honest : KeepsHonest said was_signed says signed

-- ---- the looks at the keeper

-- why a look at the keeper fails
abbrev pub KeeperCause : IssueFault → ℕ → ℕ → Type 0
KeeperCause fault.KeeperFault before now = Rose before now
KeeperCause fault.NoMemory before now = Unit {0}
KeeperCause fault.ProviderFault before now = ⊥
KeeperCause (fault.NoKey r) before now = ⊥

pub record KeeperCaused {T : Type 0} (before now : ℕ) (result : Result T IssueFault) : Type 0 where
  pub later : before ≤ now
  pub failed : IfErr result (λ e. KeeperCause e before now)
  pub quiet : result ≢ Err fault.KeeperFault → now ≡ before

-- ---- the provider's calls

-- A verdict takes no memory.
abbrev pub VerdictCause : IssueFault → ℕ → ℕ → Type 0
VerdictCause fault.ProviderFault before now = Rose before now
VerdictCause fault.NoMemory before now = ⊥
VerdictCause fault.KeeperFault before now = ⊥
VerdictCause (fault.NoKey r) before now = ⊥

pub record VerdictCaused {T : Type 0} (before now : ℕ) (result : Result T IssueFault) : Type 0 where
  pub later : before ≤ now
  pub failed : IfErr result (λ e. VerdictCause e before now)
  pub quiet : result ≢ Err fault.ProviderFault → now ≡ before

-- a key that is missing is told by this reference
abbrev pub MakeCause : IssueFault → ℕ → ℕ → Bool → List ℕ → Type 0
MakeCause fault.ProviderFault before now held reference = Rose before now
MakeCause (fault.NoKey r) before now held reference = (held ≡ false) × (r ≡ reference)
MakeCause fault.NoMemory before now held reference = Unit {0}
MakeCause fault.KeeperFault before now held reference = ⊥

pub record MakeCaused {T : Type 0} (before now : ℕ) (held : Bool) (reference : List ℕ) (result : Result T IssueFault) : Type 0 where
  pub later : before ≤ now
  pub failed : IfErr result (λ e. MakeCause e before now held reference)
  pub quiet : result ≢ Err fault.ProviderFault → now ≡ before
