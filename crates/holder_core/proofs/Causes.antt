-- Causes of faults over the steps of a call.
use Rattle.std.proofs.Common.{◌≡◌, ℕ, ◌≤◌, List, arith, refl, ◌∙◌, subst}
use Rattle.std.specs.Prelude.{◌≢◌, Result, Ok, Err, IfErr}
use Rattle.eac_base.specs.Causes.{Rose}
use Rattle.holder_core.specs.declared.fault.HolderFault.{HolderFault}
use Rattle.holder_core.specs.declared.fault.HolderFault.TheVariants as fault
use Rattle.holder_core.specs.Faults.{FaultCause, HolderCause, KeeperCause, KeeperCaused}

pub ok_no_fault : {T : Type 0} (x : T) (f : HolderFault) (r : Result T HolderFault) → r ≡ Ok x → r ≢ Err f
ok_no_fault x f r is e = absurd (cc)

err_as : {A B : Type 0} (f g : HolderFault) (r : Result A HolderFault) (s : Result B HolderFault) → r ≡ Err f → r ≡ Err g → s ≡ Err f → s ≡ Err g
err_as f g r s is e at = let same : f ≡ g = cc in at ∙ (λ i. Err (same i))

-- what a look answered left the count
pub quiet_seen : {A : Type 0} (before now : ℕ) (x : A) (r : Result A HolderFault) → r ≡ Ok x → KeeperCaused before now r → now ≡ before
quiet_seen before now x r is h = h.quiet (ok_no_fault x fault.KeeperFault r is)

kept_fault : (missing : List ℕ → Type 0) (k p : ℕ × ℕ) (f : HolderFault) → KeeperCause f k.0 k.1 → FaultCause missing f k p
kept_fault missing k p fault.KeeperFault e = e
kept_fault missing k p fault.NoMemory e = tt
kept_fault missing k p fault.ProviderFault e = absurd e
kept_fault missing k p (fault.NoKey r) e = absurd e

kept_failed : {T : Type 0} (missing : List ℕ → Type 0) (k p : ℕ × ℕ) (r : Result T HolderFault) → IfErr r (λ f. KeeperCause f k.0 k.1) → IfErr r (λ f. FaultCause missing f k p)
kept_failed missing k p (Ok x) e = tt
kept_failed missing k p (Err f) e = kept_fault missing k p f e

module _ (missing : List ℕ → Type 0) (k p : ℕ × ℕ) where
  -- the keeper alone was asked, or the provider answered before
  pub cause_kept : {T : Type 0} (r : Result T HolderFault) → KeeperCaused k.0 k.1 r → p.1 ≡ p.0 → HolderCause missing k p r
  cause_kept r h quiet = record {
    keeper_later = h.later;
    provider_later = omega (arith, quiet);
    failed = kept_failed missing k p r h.failed;
    keeper_quiet = h.quiet;
    provider_quiet = λ not. quiet;
  }

  -- a look failed
  pub cause_unseen : {A B : Type 0} (f : HolderFault) (r : Result A HolderFault) → r ≡ Err f → KeeperCaused k.0 k.1 r → p.1 ≡ p.0 → HolderCause {T = B} missing k p (Err f)
  cause_unseen {A} {B} f r is h quiet = record {
    keeper_later = h.later;
    provider_later = omega (arith, quiet);
    failed = kept_fault missing k p f (subst (λ (x : Result A HolderFault). IfErr x (λ g. KeeperCause g k.0 k.1)) is h.failed);
    keeper_quiet = λ not. h.quiet (λ g. not (err_as f fault.KeeperFault r (Err f) is g refl));
    provider_quiet = λ not. quiet;
  }

  -- an answer
  pub cause_answered : {T : Type 0} (x : T) → k.1 ≡ k.0 → p.1 ≡ p.0 → HolderCause {T = T} missing k p (Ok x)
  cause_answered x kept quiet = record {
    keeper_later = omega (arith, kept);
    provider_later = omega (arith, quiet);
    failed = tt;
    keeper_quiet = λ not. kept;
    provider_quiet = λ not. quiet;
  }

  -- the provider failed
  pub cause_unasked : {T : Type 0} → k.1 ≡ k.0 → p.0 ≤ p.1 → Rose p.0 p.1 → HolderCause {T = T} missing k p (Err fault.ProviderFault)
  cause_unasked {T} kept later rose = record {
    keeper_later = omega (arith, kept);
    provider_later = later;
    failed = rose;
    keeper_quiet = λ not. kept;
    provider_quiet = λ not. absurd (not refl);
  }

  -- memory was wanting
  pub cause_wanting : {T : Type 0} → k.1 ≡ k.0 → p.1 ≡ p.0 → HolderCause {T = T} missing k p (Err fault.NoMemory)
  cause_wanting {T} kept quiet = record {
    keeper_later = omega (arith, kept);
    provider_later = omega (arith, quiet);
    failed = tt;
    keeper_quiet = λ not. kept;
    provider_quiet = λ not. quiet;
  }

-- the keeper was asked after a look
pub cause_looked : {A T : Type 0} (missing : List ℕ → Type 0) (k0 k1 k2 p0 p1 : ℕ) (x : A) (seen : Result A HolderFault) (r : Result T HolderFault) → seen ≡ Ok x → KeeperCaused k0 k1 seen → KeeperCaused k1 k2 r → p1 ≡ p0 → HolderCause missing (k0, k2) (p0, p1) r
cause_looked missing k0 k1 k2 p0 p1 x seen r is h kept quiet =
    cause_kept missing (k0, k2) (p0, p1) r (subst (λ (n : ℕ). KeeperCaused n k2 r) (quiet_seen k0 k1 x seen is h) kept) quiet
