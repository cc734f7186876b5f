-- What a party signs, and what is asked of its provider for it (this project's own).
use Rattle.std.specs.Prelude.{◌≡◌, ◌≢◌, ℕ, ◌≤◌, List, [], ◌∷◌, ◌++◌, option_map, Result, Ok, Err, IfErr, IsTrue, true}
use Rattle.std.specs.List.{All}
use Rattle.eac_base.specs.Causes.{Rose}
use Rattle.signature_provider.specs.Provider.{PublicKey, Says, Signed, SaysMore, Holds, HoldsMore, KeepsHonest}
use Rattle.cvc_grammar.specs.Certificate.{is_signature}
use Rattle.holder_core.specs.Bodies.{IsNoBody}
use Rattle.holder_core.specs.declared.fault.HolderFault.{HolderFault}
use Rattle.holder_core.specs.declared.fault.HolderFault.TheVariants as fault

-- ---- pairs

-- a key and a message
abbrev pub Pair : Type 0
Pair = PublicKey × List ℕ

-- these pairs were signed, one after another, where what was signed is told before and after
abbrev pub SignsMore : Signed × Signed → List Pair → Type 0
SignsMore signed pairs = signed.1 ≡ option_map (λ (before : List Pair). before ++ pairs) signed.0

-- no certificate's body was signed
pub record SignsNoBody (signed : Signed × Signed) : Type 0 where
  pub pairs : List Pair
  pub more : SignsMore signed pairs
  pub bodies : All (λ (pair : Pair). IsNoBody pair.1) pairs

-- one signing: this pair, or nothing
abbrev pub SignsOnce : {T E : Type 0} → Signed × Signed → Pair → Result T E → Type 0
SignsOnce signed pair (Ok x) = SignsMore signed (pair ∷ [])
SignsOnce signed pair (Err e) = signed.1 ≡ signed.0

-- ---- a signature

-- a signature of this message by this key, which is held
pub record IsSignature (says : Says) (holds : Holds) (key : PublicKey) (message signature : List ℕ) : Type 0 where
  pub size : IsTrue (is_signature signature)
  pub good : says key message signature ≡ true
  pub is_held : holds key ≡ true

-- ---- what stays true of a provider

-- What the provider said it still says, what it held it still holds, and it stays honest where it was.
pub record StaysTrue (said says : Says) (held holds : Holds) (was_signed signed : Signed) : Type 0 where
  pub says_more : SaysMore said says
  pub holds_more : HoldsMore held holds
  pub honest : KeepsHonest said was_signed says signed

-- ---- a step that asks the provider alone

abbrev pub ProviderCause : (missing : List ℕ → Type 0) → HolderFault → ℕ → ℕ → Type 0
ProviderCause missing fault.ProviderFault before now = Rose before now
ProviderCause missing (fault.NoKey reference) before now = missing reference
ProviderCause missing fault.NoMemory before now = Unit {0}
ProviderCause missing fault.KeeperFault before now = ⊥

pub record ProviderCaused {T : Type 0} (missing : List ℕ → Type 0) (before now : ℕ) (result : Result T HolderFault) : Type 0 where
  pub later : before ≤ now
  pub failed : IfErr result (λ e. ProviderCause missing e before now)
  pub quiet : result ≢ Err fault.ProviderFault → now ≡ before
