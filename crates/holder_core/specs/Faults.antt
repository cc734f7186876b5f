-- Why a party's call was broken off, for every keeper and provider (this project's own).
use Rattle.std.specs.Prelude.{◌≡◌, ◌≢◌, ℕ, ◌≤◌, List, Result, Err, IfErr}
use Rattle.eac_base.specs.Causes.{Rose}
use Rattle.keeper.specs.declared.keeping.KeepRefusal.{KeepRefusal}
use Rattle.keeper.specs.declared.keeping.KeepRefusal.TheVariants as refusal
use Rattle.holder_core.specs.declared.fault.HolderFault.{HolderFault}
use Rattle.holder_core.specs.declared.fault.HolderFault.TheVariants as fault

-- ---- a call

-- Why a fault came. Whose key is missing is said by its row's reference: of which row, each kind of call says for itself.
abbrev pub FaultCause : (missing : List ℕ → Type 0) → HolderFault → ℕ × ℕ → ℕ × ℕ → Type 0
FaultCause missing fault.KeeperFault k p = Rose k.0 k.1
FaultCause missing fault.ProviderFault k p = Rose p.0 p.1
FaultCause missing (fault.NoKey reference) k p = missing reference
FaultCause missing fault.NoMemory k p = Unit {0}

-- The counts haven't fallen. A fault of keeper or provider came only where its count rose, and where it didn't come, its
-- count is as before.
pub record HolderCause {T : Type 0} (missing : List ℕ → Type 0) (k p : ℕ × ℕ) (result : Result T HolderFault) : Type 0 where
  pub keeper_later : k.0 ≤ k.1
  pub provider_later : p.0 ≤ p.1
  pub failed : IfErr result (λ e. FaultCause missing e k p)
  pub keeper_quiet : result ≢ Err fault.KeeperFault → k.1 ≡ k.0
  pub provider_quiet : result ≢ Err fault.ProviderFault → p.1 ≡ p.0

-- a call that signs under no kept key misses none
abbrev pub NoneMissing : List ℕ → Type 0
NoneMissing reference = ⊥

-- ---- its steps

-- a keeper's refusal of a reading
abbrev pub fault_in : KeepRefusal → HolderFault
fault_in refusal.Failed = fault.KeeperFault
fault_in refusal.Full = fault.NoMemory
fault_in (refusal.Twice row) = fault.NoMemory
fault_in refusal.Absent = fault.NoMemory
fault_in refusal.NoMemory = fault.NoMemory

-- a step that asks the keeper alone
abbrev pub KeeperCause : HolderFault → ℕ → ℕ → Type 0
KeeperCause fault.KeeperFault before now = Rose before now
KeeperCause fault.NoMemory before now = Unit {0}
KeeperCause fault.ProviderFault before now = ⊥
KeeperCause (fault.NoKey reference) before now = ⊥

pub record KeeperCaused {T : Type 0} (before now : ℕ) (result : Result T HolderFault) : Type 0 where
  pub later : before ≤ now
  pub failed : IfErr result (λ e. KeeperCause e before now)
  pub quiet : result ≢ Err fault.KeeperFault → now ≡ before
