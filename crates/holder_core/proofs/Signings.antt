-- What is signed and what stays true of a provider, over the steps of a call.
use Rattle.std.proofs.Common.{◌≡◌, ℕ, ◌≤◌, Bool, true, false, List, [], ◌∷◌, ◌++◌, Option, Some, None, refl, sym, ap, ◌∙◌, subst}
use Rattle.std.specs.Prelude.{◌≢◌, Result, Ok, Err, IfErr, OnErr, IsErrAnd, IsTrue, option_map}
use Rattle.std.specs.List.{All}
use Rattle.std.proofs.lemmas.List.{append-nil, append_assoc}
use Rattle.std.proofs.lemmas.List.Elements.{All-append, All-cons, All-nil}
use Rattle.std.proofs.lemmas.Bool.{false≢true}
use Rattle.eac_base.specs.Causes.{Rose}
use Rattle.signature_provider.specs.Provider.{PublicKey, Says, Holds, HoldsMore, Signed}
use Rattle.holder_core.specs.declared.fault.HolderFault.{HolderFault}
use Rattle.holder_core.specs.declared.fault.HolderFault.TheVariants as fault
use Rattle.holder_core.specs.Faults.{NoneMissing}
use Rattle.holder_core.specs.Bodies.{IsNoBody}
use Rattle.holder_core.specs.Signing.{Pair, SignsMore, SignsNoBody, SignsOnce, StaysTrue, ProviderCause, ProviderCaused}

-- ---- what stays true

pub stays_same : (says : Says) (holds : Holds) (signed : Signed) → StaysTrue says says holds holds signed signed
stays_same says holds signed = record { says_more = λ key message signature e. e; holds_more = λ key e. e; honest = λ e. e }

pub stays_then : (s t u : Says) (h i j : Holds) (x y z : Signed) → StaysTrue s t h i x y → StaysTrue t u i j y z → StaysTrue s u h j x z
stays_then s t u h i j x y z p q = record {
  says_more = λ key message signature e. q.says_more key message signature (p.says_more key message signature e);
  holds_more = λ key e. q.holds_more key (p.holds_more key e);
  honest = λ e. q.honest (p.honest e);
}

-- a key that isn't held now wasn't held before
pub unheld_before : (held holds : Holds) (key : PublicKey) → HoldsMore held holds → holds key ≡ false → held key ≡ false
unheld_before held holds key more e = by_cases (held key) refl
  where
    by_cases : (b : Bool) → held key ≡ b → held key ≡ false
    by_cases true h = absurd (false≢true (sym e ∙ more key h))
    by_cases false h = h

-- ---- what was signed

none_more : (signed : Signed) → signed ≡ option_map (λ (before : List Pair). before ++ []) signed
none_more None = refl
none_more (Some before) = ap Some (sym (append-nil before))

pub signs_none : (before after : Signed) → after ≡ before → SignsNoBody (before, after)
signs_none before after e = record { pairs = []; more = e ∙ none_more before; bodies = All-nil (λ (pair : Pair). IsNoBody pair.1) }

all_one : (pair : Pair) → IsNoBody pair.1 → All (λ (p : Pair). IsNoBody p.1) (pair ∷ [])
all_one pair h = All-cons (λ (p : Pair). IsNoBody p.1) pair [] h (All-nil (λ (p : Pair). IsNoBody p.1))

two_more : (signed : Signed) (ps qs : List Pair) → option_map (λ (before : List Pair). before ++ qs) (option_map (λ (before : List Pair). before ++ ps) signed) ≡ option_map (λ (before : List Pair). before ++ (ps ++ qs)) signed
two_more None ps qs = refl
two_more (Some before) ps qs = ap Some (append_assoc before ps qs)

pub more_then : (x y z : Signed) (ps qs : List Pair) → SignsMore (x, y) ps → SignsMore (y, z) qs → SignsMore (x, z) (ps ++ qs)
more_then x y z ps qs p q = q ∙ ap (λ (s : Signed). option_map (λ (before : List Pair). before ++ qs) s) p ∙ two_more x ps qs

pub same_then : (x y z : Signed) (ps : List Pair) → y ≡ x → SignsMore (y, z) ps → SignsMore (x, z) ps
same_then x y z ps e q = q ∙ ap (λ (s : Signed). option_map (λ (before : List Pair). before ++ ps) s) e

pub then_same : (x y z : Signed) (ps : List Pair) → SignsMore (x, y) ps → z ≡ y → SignsMore (x, z) ps
then_same x y z ps p e = e ∙ p

pub signs_then : (x y z : Signed) → SignsNoBody (x, y) → SignsNoBody (y, z) → SignsNoBody (x, z)
signs_then x y z p q = record {
  pairs = p.pairs ++ q.pairs;
  more = more_then x y z p.pairs q.pairs p.more q.more;
  bodies = All-append (λ (pair : Pair). IsNoBody pair.1) p.pairs q.pairs p.bodies q.bodies;
}

pub signs_once : {T E : Type 0} (before after : Signed) (pair : Pair) (r : Result T E) → IsNoBody pair.1 → SignsOnce (before, after) pair r → SignsNoBody (before, after)
signs_once before after pair (Ok x) h e = record { pairs = pair ∷ []; more = e; bodies = all_one pair h }
signs_once before after pair (Err x) h e = signs_none before after e

pub signs_one : (before after : Signed) (pair : Pair) → IsNoBody pair.1 → SignsMore (before, after) (pair ∷ []) → SignsNoBody (before, after)
signs_one before after pair h e = record { pairs = pair ∷ []; more = e; bodies = all_one pair h }

-- ---- why a step failed

pub err_is : {A : Type 0} (f : HolderFault) (r : Result A HolderFault) → IsErrAnd r (λ g. g ≡ f) → r ≡ Err f
err_is f (Ok x) h = absurd h
err_is f (Err g) h = λ i. Err (h i)

pub on_err : {A : Type 0} (P : Type 0) (r : Result A HolderFault) → P → OnErr r P
on_err P (Ok x) h = tt
on_err P (Err f) h = h

-- the same fault as another call's answer
pub cause_again : {B D : Type 0} (missing : List ℕ → Type 0) (before now : ℕ) (f : HolderFault) (r : Result D HolderFault) → r ≡ Err f → ProviderCaused {T = B} missing before now (Err f) → ProviderCaused missing before now r
cause_again {B} {D} missing before now f r is h = subst (λ (x : Result D HolderFault). ProviderCaused missing before now x) (sym is) (record {
  later = h.later;
  failed = h.failed;
  quiet = λ never. h.quiet (λ e. never (let same : f ≡ fault.ProviderFault = cc in λ i. Err (same i)));
})

-- a fault after a step that answered
pub cause_after : {A B D : Type 0} (first missing : List ℕ → Type 0) (a b d : ℕ) (x : A) (f : HolderFault) (r : Result D HolderFault) → r ≡ Err f → ProviderCaused {T = A} first a b (Ok x) → ProviderCaused {T = B} missing b d (Err f) → ProviderCaused missing a d r
cause_after {A} {B} {D} first missing a b d x f r is p q =
    subst (λ (n : ℕ). ProviderCaused missing n d r) (p.quiet (λ e. absurd (cc))) (cause_again missing b d f r is q)

-- whose key is missing said otherwise
pub cause_more : {B : Type 0} (m n : List ℕ → Type 0) (before now : ℕ) (f : HolderFault) → ((r : List ℕ) → m r → n r) → ProviderCaused {T = B} m before now (Err f) → ProviderCaused {T = B} n before now (Err f)
cause_more {B} m n before now f more h = record { later = h.later; failed = by_cause f h.failed; quiet = h.quiet }
  where
    by_cause : (g : HolderFault) → ProviderCause m g before now → ProviderCause n g before now
    by_cause fault.ProviderFault e = e
    by_cause (fault.NoKey r) e = more r e
    by_cause fault.NoMemory e = tt
    by_cause fault.KeeperFault e = absurd e

-- the key to sign with is held
pub cause_held : {T : Type 0} (held : Bool) (reference : List ℕ) (before now : ℕ) (r : Result T HolderFault) → held ≡ true → ProviderCaused (λ x. (held ≡ false) × (x ≡ reference)) before now r → ProviderCaused NoneMissing before now r
cause_held {T} held reference before now r is h = record { later = h.later; failed = by_fault r h.failed; quiet = h.quiet }
  where
    by_cause : (f : HolderFault) → ProviderCause (λ x. (held ≡ false) × (x ≡ reference)) f before now → ProviderCause NoneMissing f before now
    by_cause fault.ProviderFault e = e
    by_cause (fault.NoKey x) e = absurd (false≢true (sym e.0 ∙ is))
    by_cause fault.NoMemory e = tt
    by_cause fault.KeeperFault e = absurd e

    by_fault : (x : Result T HolderFault) → IfErr x (λ f. ProviderCause (λ x. (held ≡ false) × (x ≡ reference)) f before now) → IfErr x (λ f. ProviderCause NoneMissing f before now)
    by_fault (Ok x) e = tt
    by_fault (Err f) e = by_cause f e
