-- Causes of faults, and what stays true of a provider, over the steps of a call.
use Rattle.std.proofs.Common.{◌≡◌, ℕ, List, Bool, arith, refl, sym, ◌∙◌, subst}
use Rattle.std.specs.Prelude.{◌≢◌, Result, Ok, Err, IfErr, IsErrAnd}
use Rattle.signature_provider.specs.Provider.{Says, Holds, Signed}
use Rattle.issue_core.specs.declared.fault.IssueFault.{IssueFault}
use Rattle.issue_core.specs.declared.fault.IssueFault.TheVariants as fault
use Rattle.issue_core.specs.Issuing.Causes.{KeeperCause, KeeperCaused}
use Rattle.issue_core.specs.Issuing.Causes.{FaultCause, IssueCause, MakeCause, MakeCaused, VerdictCause, VerdictCaused, StaysTrue}

-- ---- a fault is the same one whatever was asked for

err_as : {A B : Type 0} (f g : IssueFault) (r : Result A IssueFault) (s : Result B IssueFault) → r ≡ Err f → r ≡ Err g → s ≡ Err f → s ≡ Err g
err_as f g r s is e at = let same : f ≡ g = cc in at ∙ (λ i. Err (same i))

pub ok_no_fault : {T : Type 0} (x : T) (f : IssueFault) (r : Result T IssueFault) → r ≡ Ok x → r ≢ Err f
ok_no_fault x f r is e = absurd (cc)

-- what `?` answers
pub err_is : {A : Type 0} (f : IssueFault) (r : Result A IssueFault) → IsErrAnd r (λ g. g ≡ f) → r ≡ Err f
err_is f (Ok x) h = absurd h
err_is f (Err g) h = λ i. Err (h i)

-- ---- the looks at the keeper

look_fault : (missing : List ℕ → Type 0) (k p : ℕ × ℕ) (f : IssueFault) → KeeperCause f k.0 k.1 → FaultCause missing f k p
look_fault missing k p fault.KeeperFault e = e
look_fault missing k p fault.NoMemory e = tt
look_fault missing k p fault.ProviderFault e = absurd e
look_fault missing k p (fault.NoKey r) e = absurd e

pub cause_unseen : {A B : Type 0} (missing : List ℕ → Type 0) (k : ℕ × ℕ) (p : ℕ) (f : IssueFault) (r : Result A IssueFault) (s : Result B IssueFault) → r ≡ Err f → s ≡ Err f → KeeperCause f k.0 k.1 → KeeperCaused k.0 k.1 r → IssueCause missing k (p, p) s
cause_unseen {A} {B} missing k p f r s is at e h = record {
  keeper_later = h.later;
  provider_later = omega arith;
  failed = subst (λ (x : Result B IssueFault). IfErr x (λ g. FaultCause missing g k (p, p))) (sym at) (look_fault missing k (p, p) f e);
  keeper_quiet = λ not. h.quiet (λ g. not (err_as f fault.KeeperFault r s is g at));
  provider_quiet = λ not. refl;
}

-- what was seen is answered
pub cause_seen : {A B : Type 0} (missing : List ℕ → Type 0) (k : ℕ × ℕ) (p : ℕ) (x : A) (r : Result A IssueFault) (y : B) → r ≡ Ok x → KeeperCaused k.0 k.1 r → IssueCause {T = B} missing k (p, p) (Ok y)
cause_seen missing k p x r y is h = record {
  keeper_later = h.later;
  provider_later = omega arith;
  failed = tt;
  keeper_quiet = λ not. h.quiet (ok_no_fault x fault.KeeperFault r is);
  provider_quiet = λ not. refl;
}

-- nothing outside was asked
pub cause_still : {B : Type 0} (missing : List ℕ → Type 0) (k p : ℕ) (s : Result B IssueFault) → IfErr s (λ g. FaultCause missing g (k, k) (p, p)) → IssueCause missing (k, k) (p, p) s
cause_still missing k p s h = record {
  keeper_later = omega arith;
  provider_later = omega arith;
  failed = h;
  keeper_quiet = λ not. refl;
  provider_quiet = λ not. refl;
}

-- ---- the verdicts

verdict_fault : (missing : List ℕ → Type 0) (k p : ℕ × ℕ) (f : IssueFault) → VerdictCause f p.0 p.1 → FaultCause missing f k p
verdict_fault missing k p fault.ProviderFault e = e
verdict_fault missing k p fault.NoMemory e = absurd e
verdict_fault missing k p fault.KeeperFault e = absurd e
verdict_fault missing k p (fault.NoKey r) e = absurd e

pub cause_unasked : {A B : Type 0} (missing : List ℕ → Type 0) (k : ℕ) (p : ℕ × ℕ) (f : IssueFault) (r : Result A IssueFault) (s : Result B IssueFault) → r ≡ Err f → s ≡ Err f → VerdictCause f p.0 p.1 → VerdictCaused p.0 p.1 r → IssueCause missing (k, k) p s
cause_unasked {A} {B} missing k p f r s is at e h = record {
  keeper_later = omega arith;
  provider_later = h.later;
  failed = subst (λ (x : Result B IssueFault). IfErr x (λ g. FaultCause missing g (k, k) p)) (sym at) (verdict_fault missing (k, k) p f e);
  keeper_quiet = λ not. refl;
  provider_quiet = λ not. h.quiet (λ g. not (err_as f fault.ProviderFault r s is g at));
}

pub cause_asked : {A B : Type 0} (missing : List ℕ → Type 0) (k : ℕ) (p : ℕ × ℕ) (x : A) (r : Result A IssueFault) (y : B) → r ≡ Ok x → VerdictCaused p.0 p.1 r → IssueCause {T = B} missing (k, k) p (Ok y)
cause_asked missing k p x r y is h = record {
  keeper_later = omega arith;
  provider_later = h.later;
  failed = tt;
  keeper_quiet = λ not. refl;
  provider_quiet = λ not. h.quiet (ok_no_fault x fault.ProviderFault r is);
}

-- the same of a value by another name
pub asked_as : {A : Type 0} (before now : ℕ) (x y : A) → x ≡ y → VerdictCaused {T = A} before now (Ok x) → VerdictCaused {T = A} before now (Ok y)
asked_as {A} before now x y is h = subst (λ (z : A). VerdictCaused {T = A} before now (Ok z)) is h

-- ---- the making and the adding

make_fault : (missing : List ℕ → Type 0) (held : Bool) (reference : List ℕ) (k p : ℕ × ℕ) (f : IssueFault) → MakeCause f p.0 p.1 held reference → ((r : List ℕ) → f ≡ fault.NoKey r → missing r) → FaultCause missing f k p
make_fault missing held reference k p fault.ProviderFault e named = e
make_fault missing held reference k p (fault.NoKey r) e named = named r refl
make_fault missing held reference k p fault.NoMemory e named = tt
make_fault missing held reference k p fault.KeeperFault e named = absurd e

pub cause_unmade : {A B : Type 0} (missing : List ℕ → Type 0) (held : Bool) (reference : List ℕ) (k : ℕ) (p : ℕ × ℕ) (f : IssueFault) (r : Result A IssueFault) (s : Result B IssueFault) → r ≡ Err f → s ≡ Err f → MakeCause f p.0 p.1 held reference → MakeCaused p.0 p.1 held reference r → ((q : List ℕ) → f ≡ fault.NoKey q → missing q) → IssueCause missing (k, k) p s
cause_unmade {A} {B} missing held reference k p f r s is at e h named = record {
  keeper_later = omega arith;
  provider_later = h.later;
  failed = subst (λ (x : Result B IssueFault). IfErr x (λ g. FaultCause missing g (k, k) p)) (sym at) (make_fault missing held reference (k, k) p f e named);
  keeper_quiet = λ not. refl;
  provider_quiet = λ not. h.quiet (λ g. not (err_as f fault.ProviderFault r s is g at));
}

-- the same fault of a making, whatever was made
pub unmade_again : {A B : Type 0} (before now : ℕ) (held : Bool) (reference : List ℕ) (f : IssueFault) (s : Result B IssueFault) → s ≡ Err f → MakeCaused {T = A} before now held reference (Err f) → MakeCaused before now held reference s
unmade_again {A} {B} before now held reference f s is h = subst (λ (x : Result B IssueFault). MakeCaused before now held reference x) (sym is) (record {
  later = h.later;
  failed = h.failed;
  quiet = λ not. h.quiet (λ e. not (let same : f ≡ fault.ProviderFault = cc in λ i. Err (same i)));
})

entered_fault : {B : Type 0} (missing : List ℕ → Type 0) (k p : ℕ × ℕ) (s : Result B IssueFault) → IfErr s (λ g. KeeperCause g k.0 k.1) → IfErr s (λ g. FaultCause missing g k p)
entered_fault missing k p (Ok x) e = tt
entered_fault missing k p (Err f) e = look_fault missing k p f e

pub cause_made : {A B : Type 0} (missing : List ℕ → Type 0) (held : Bool) (reference : List ℕ) (k p : ℕ × ℕ) (x : A) (r : Result A IssueFault) (s : Result B IssueFault) → r ≡ Ok x → MakeCaused p.0 p.1 held reference r → KeeperCaused k.0 k.1 s → IssueCause missing k p s
cause_made missing held reference k p x r s is h e = record {
  keeper_later = e.later;
  provider_later = h.later;
  failed = entered_fault missing k p s e.failed;
  keeper_quiet = e.quiet;
  provider_quiet = λ not. h.quiet (ok_no_fault x fault.ProviderFault r is);
}

-- ---- what stays true

-- verdicts change nothing
pub stays_asked : (said says : Says) (held holds : Holds) (was signed : Signed) → says ≡ said → holds ≡ held → signed ≡ was → StaysTrue said says held holds was signed
stays_asked said says held holds was signed s h g = subst (λ (x : Says). StaysTrue said x held holds was signed) (sym s) (subst (λ (x : Holds). StaysTrue said said held x was signed) (sym h) (subst (λ (x : Signed). StaysTrue said said held held was x) (sym g) (record { says_more = λ key message signature e. e; holds_more = λ key e. e; honest = λ e. e })))
