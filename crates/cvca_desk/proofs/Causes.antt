-- Why a call was broken off, over a look before it.
use Rattle.std.proofs.Common.{◌≡◌, ℕ, List, subst}
use Rattle.std.specs.Prelude.{Result, Ok, Err, IfErr}
use Rattle.holder_core.specs.declared.fault.HolderFault.{HolderFault}
use Rattle.holder_core.specs.declared.fault.HolderFault.TheVariants as fault
use Rattle.holder_core.specs.Faults.{FaultCause, HolderCause}

wider_fault : (missing more : List ℕ → Type 0) (k p : ℕ × ℕ) (f : HolderFault) → ((s : List ℕ) → missing s → more s) → FaultCause missing f k p → FaultCause more f k p
wider_fault missing more k p fault.KeeperFault m c = c
wider_fault missing more k p fault.ProviderFault m c = c
wider_fault missing more k p (fault.NoKey r) m c = m r c
wider_fault missing more k p fault.NoMemory m c = c

wider_failed : {T : Type 0} (missing more : List ℕ → Type 0) (k p : ℕ × ℕ) (r : Result T HolderFault) → ((s : List ℕ) → missing s → more s) → IfErr r (λ f. FaultCause missing f k p) → IfErr r (λ f. FaultCause more f k p)
wider_failed missing more k p (Ok x) m c = tt
wider_failed missing more k p (Err f) m c = wider_fault missing more k p f m c

-- other words for whose key is missing, from an earlier count that is the same
pub cause_as : {T : Type 0} (missing more : List ℕ → Type 0) (first : ℕ) (k p : ℕ × ℕ) (r : Result T HolderFault) → k.0 ≡ first → ((s : List ℕ) → missing s → more s) → HolderCause missing k p r → HolderCause more (first, k.1) p r
cause_as {T} missing more first k p r same m h = subst (λ (n : ℕ). HolderCause more (n, k.1) p r) same (record {
  keeper_later = h.keeper_later;
  provider_later = h.provider_later;
  failed = wider_failed missing more k p r m h.failed;
  keeper_quiet = h.keeper_quiet;
  provider_quiet = h.provider_quiet;
})
