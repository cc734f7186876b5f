-- What the rows make of a call for a request.
use Rattle.std.proofs.Common.{◌≡◌, ◌⊎◌, inl, inr, ℕ, ◌≤◌, ◌<◌, Bool, true, false, cond, List, length, Option, Some, None, refl, sym, ap, ◌∙◌, subst, arith}
use Rattle.std.specs.Prelude.{◌≢◌, ◌+◌, Result, Ok, Err, IfOk, IfErr, OnErr, IfSome, IsSome, IsTrue, is_some, is_none, nat_le, ◌&&◌}
use Rattle.std.proofs.lemmas.Bool.{false≢true}
use Rattle.std.specs.List.{All}
use Rattle.std.specs.Str.{bytes_eq}
use Rattle.std.proofs.lemmas.Bool.Decides.{nat_tests}
use Rattle.eac_base.specs.Telling.{Told}
use Rattle.eac_base.proofs.Tellings.{told_more}
use Rattle.holder_reference.specs.Reference.{holder_part}
use Rattle.signature_provider.specs.Provider.{Says, Holds, Signed}
use Rattle.keeper.specs.declared.rows.Row.{Row}
use Rattle.keeper.specs.declared.rows.CaPart.{CaPart}
use Rattle.keeper.specs.declared.rows.Part.TheVariants as part
use Rattle.keeper.specs.declared.rows.Table.TheVariants as table
use Rattle.keeper.specs.Keeping.{IsDeskRow}
use Rattle.holder_core.specs.OwnRows.{ca_part, own_rows, ca_rows}
use Rattle.holder_core.specs.Numbers.{numbered, most_keys, reference_after}
use Rattle.holder_core.specs.Signers.{Signer, ca_as, has_legal_form, is_fit, where_so, wanted_in, wanted_at, newest_wanted, missing_of}
use Rattle.holder_core.specs.Faults.{FaultCause, HolderCause, KeeperCaused}
use Rattle.holder_core.specs.Signing.{ProviderCause, ProviderCaused}
use Rattle.holder_core.specs.Requesting.{authority_in, outer_signer, request_refused, IsComposed, MayBegin, ComposedBelow, MayBeginBelow, IsChosen, Chooses, IsBroken, MissesChosen, MissesOuter, RequestAsked, EnteredAs}
use Rattle.holder_core.specs.declared.requesting.Choice.{Choice}
use Rattle.holder_core.specs.declared.requesting.Choice.TheVariants as choice
use Rattle.holder_core.specs.declared.made.Made.{Made}
use Rattle.holder_core.specs.declared.made.Made.TheVariants as answers
use Rattle.holder_core.specs.declared.fault.HolderFault.TheVariants as fault
use Rattle.holder_core.specs.declared.newest.Wanted.{Wanted}
use Rattle.holder_core.specs.declared.newest.Wanted.TheVariants as wanted
use Rattle.holder_core.specs.declared.composing.Composed.{Composed}
use Rattle.holder_core.specs.declared.fault.HolderFault.{HolderFault}
use Rattle.holder_core.proofs.Sizes.{both}
use Rattle.holder_core.proofs.Causes.{quiet_seen}
use Rattle.holder_core.proofs.Signings.{cause_again, cause_more}
use Rattle.holder_core.proofs.Requestings.{requested_asked}

-- ---- a row that is wanted as the authority

was_fit : (b : Bool) (s : Signer) → IsSome (cond b (Some s) None) → b ≡ true
was_fit true s h = refl
was_fit false s h = absurd (false≢true h)

pub ca_wanted : (w : Wanted) (row : Row) (ca : CaPart) (authority root : List ℕ) → w ≡ wanted.Authority authority root → row.part ≡ part.Ca ca → IsSome (wanted_in w row) → (has_legal_form ca.key ≡ true) × (wanted_in w row ≡ Some (record { reference = row.reference; key = ca.key; settled = ca.settled }))
ca_wanted w row ca authority root e p some =
    let s : Signer = record { reference = row.reference; key = ca.key; settled = ca.settled } in
    let at : wanted_in w row ≡ cond (is_fit authority root s) (Some s) None =
    (λ i. wanted_in (e i) row) ∙ (λ i. where_so (is_fit authority root) (ca_as row.reference (ca_part (p i)))) in
    let fits : is_fit authority root s ≡ true = was_fit (is_fit authority root s) s (ap is_some (sym at) ∙ some) in (
      (both (has_legal_form ca.key) (bytes_eq (holder_part row.reference) authority) (both (has_legal_form ca.key && bytes_eq (holder_part row.reference) authority) (bytes_eq (holder_part ca.settled.issuer) root) fits).0).0,
      at ∙ (λ i. cond (fits i) (Some s) None),
    )

module _ (says : Says) (held holds : Holds) (signed : Signed × Signed) (reference : List ℕ) (outer : Option Signer) (s : Signer) (above : Option Signer) (is : above ≡ Some s) (r : Result Composed HolderFault) where
  pub below_made : IfOk r (ComposedBelow says held holds signed reference outer (Some s)) → IfOk r (ComposedBelow says held holds signed reference outer above)
  below_made h = subst (λ (o : Option Signer). IfOk r (ComposedBelow says held holds signed reference outer o)) (sym is) h

  pub below_broken : OnErr r (MayBeginBelow says held holds signed reference outer (Some s)) → OnErr r (MayBeginBelow says held holds signed reference outer above)
  below_broken h = subst (λ (o : Option Signer). OnErr r (MayBeginBelow says held holds signed reference outer o)) (sym is) h

-- ---- the lists allow a request

some_signer : (o : Option Signer) → IsSome o → (s : Signer) × (o ≡ Some s)
some_signer (Some s) h = (s, refl)
some_signer None h = absurd (false≢true h)

not_none : (o : Option Signer) (s : Signer) → o ≡ Some s → is_none o ≡ false
not_none o s e = ap (λ (x : Option Signer). is_none x) e

not_many : (n : ℕ) → n < most_keys → nat_le most_keys n ≡ false
not_many n few = grind (arith, nat_tests)

module _ (own cas : List Row) (holder authority root : List ℕ) (home outer : Option Signer) (w : Wanted) (above : Row) (few : length own < most_keys) (fit : w ≡ wanted.Authority authority root) (newest : wanted_at w (Some above) ≡ newest_wanted w cas) (some : IsSome (wanted_in w above)) (by : outer ≡ outer_signer authority home own) where
  abbrev signer : Signer
  signer = (some_signer (wanted_in w above) some).0

  signer_is : wanted_in w above ≡ Some signer
  signer_is = (some_signer (wanted_in w above) some).1

  above_is : authority_in authority root cas ≡ Some signer
  above_is = (λ i. newest_wanted (sym fit i) cas) ∙ sym newest ∙ signer_is

  due : request_refused own (authority_in authority root cas) ≡ None
  due =
      (λ i. cond (not_many (length own) few i) (Some answers.Exhausted) (cond (is_none (authority_in authority root cas)) (Some answers.NoAuthority) None))
      ∙ (λ i. cond (not_none (authority_in authority root cas) signer above_is i) (Some answers.NoAuthority) None)

  pub misses : (held : Holds) (r : List ℕ) → missing_of held outer ≡ Some r → MissesChosen held authority root home own cas r
  misses held r e = (due, (λ i. missing_of held (sym by i)) ∙ e)

  module _ (says : Says) (held holds : Holds) (signed : Signed × Signed) (reference : List ℕ) (named : reference ≡ reference_after holder own) where
    pub chosen_is : (composed : Composed) → ComposedBelow says held holds signed reference outer (wanted_in w above) composed → IsChosen says held holds signed holder authority root home own cas reference composed
    chosen_is composed h = record {
      due = due;
      reference_is = named;
      above = signer;
      above_is = above_is;
      composed_is = subst (λ (o : Option Signer). IsComposed says held holds signed reference signer.reference signer.key o composed) by
          (subst (λ (o : Option Signer). ComposedBelow says held holds signed reference outer o composed) signer_is h);
    }

    pub broken_is : MayBeginBelow says held holds signed reference outer (wanted_in w above) → IsBroken says held holds signed holder authority root home own cas
    broken_is h = record {
      due = due;
      above = signer;
      above_is = above_is;
      begun = subst (λ (x : List ℕ). MayBegin says held holds signed x signer.reference signer.key (outer_signer authority home own)) named
          (subst (λ (o : Option Signer). MayBegin says held holds signed reference signer.reference signer.key o) by
          (subst (λ (o : Option Signer). MayBeginBelow says held holds signed reference outer o) signer_is h));
    }

pub cause_chosen : {A D : Type 0} (m n : List ℕ → Type 0) (before now : ℕ) (f : HolderFault) (r : Result D HolderFault) → r ≡ Err f → ((x : List ℕ) → m x → n x) → ProviderCaused {T = A} m before now (Err f) → ProviderCaused n before now r
cause_chosen {A} {D} m n before now f r is more h = cause_again n before now f r is (cause_more m n before now f more h)

-- ---- what was chosen

pub chosen_of : (says : Says) (held holds : Holds) (signed : Signed × Signed) (holder authority root : List ℕ) (home : Option Signer) (own cas : List Row) (x : Choice) (reference : List ℕ) (composed : Composed) → x ≡ choice.Composed reference composed → Chooses says held holds signed holder authority root home own cas x → IsChosen says held holds signed holder authority root home own cas reference composed
chosen_of says held holds signed holder authority root home own cas x reference composed e h = subst (λ (y : Choice). Chooses says held holds signed holder authority root home own cas y) e h

-- the same lists
pub told_same_lists : (o o' : Option (List Row)) (own cas given given2 : List Row) (party : ℕ) → given ≡ own → given2 ≡ cas → Told o o' (λ b a. (a ≡ b) × (own ≡ own_rows party b) × (cas ≡ ca_rows party b)) → Told o o' (λ b a. (a ≡ b) × (given ≡ own_rows party b) × (given2 ≡ ca_rows party b))
told_same_lists o o' own cas given given2 party e f t =
    told_more (λ b a. (a ≡ b) × (own ≡ own_rows party b) × (cas ≡ ca_rows party b)) (λ b a. (a ≡ b) × (given ≡ own_rows party b) × (given2 ≡ ca_rows party b)) o o' t
    (λ b a l. (l.0, e ∙ l.1, f ∙ l.2))

pub same_asked : (P : Row → Type 0) (rows given : List Row) → given ≡ rows → All P rows → All P given
same_asked P rows given e h = subst (λ (xs : List Row). All P xs) (sym e) h

pub entered_asked : (says : Says) (held holds : Holds) (signed : Signed × Signed) (party : ℕ) (holder authority root : List ℕ) (home : Option Signer) (own cas : List Row) → All (IsDeskRow table.Own party) own → All (IsDeskRow table.Ca party) cas → (reference : List ℕ) (composed : Composed) (r : Result Made HolderFault) → IsChosen says held holds signed holder authority root home own cas reference composed → IfOk r (EnteredAs reference composed.bytes) → IfOk r (RequestAsked says held holds signed party holder authority root home)
entered_asked says held holds signed party holder authority root home own cas asked asked2 reference composed (Ok answer) chosen h = requested_asked says held holds signed party holder authority root home own cas asked asked2 reference composed answer chosen h
entered_asked says held holds signed party holder authority root home own cas asked asked2 reference composed (Err f) chosen h = tt

-- ---- why it was broken off

module _ (held : Holds) (party : ℕ) (authority root : List ℕ) (home : Option Signer) (own cas : List Row) (asked : All (IsDeskRow table.Own party) own) (asked2 : All (IsDeskRow table.Ca party) cas) where
  missed : (k p : ℕ × ℕ) (f : HolderFault) → ProviderCause (MissesChosen held authority root home own cas) f p.0 p.1 → FaultCause (MissesOuter held party authority root home) f k p
  missed k p fault.ProviderFault e = e
  missed k p (fault.NoKey r) e = record { own = own; own_asked = asked; cas = cas; cas_asked = asked2; due = e.0; missing = e.1 }
  missed k p fault.NoMemory e = tt
  missed k p fault.KeeperFault e = absurd e

  pub cause_broken : {A B D E : Type 0} (k0 k1 k2 p0 p1 : ℕ) (x : A) (y : B) (f : HolderFault) (r : Result D HolderFault) → r ≡ Err f → KeeperCaused {T = A} k0 k1 (Ok x) → KeeperCaused {T = B} k1 k2 (Ok y) → ProviderCaused {T = E} (MissesChosen held authority root home own cas) p0 p1 (Err f) → HolderCause (MissesOuter held party authority root home) (k0, k2) (p0, p1) r
  cause_broken {A} {B} {D} {E} k0 k1 k2 p0 p1 x y f r is one two h =
      let still : k2 ≡ k0 = quiet_seen k1 k2 y (Ok y) refl two ∙ quiet_seen k0 k1 x (Ok x) refl one in
      subst (λ (s : Result D HolderFault). HolderCause (MissesOuter held party authority root home) (k0, k2) (p0, p1) s) (sym is) (record {
        keeper_later = omega (arith, still);
        provider_later = h.later;
        failed = missed (k0, k2) (p0, p1) f h.failed;
        keeper_quiet = λ never. still;
        provider_quiet = λ never. h.quiet (λ e. never (let same : f ≡ fault.ProviderFault = cc in λ i. Err (same i)));
      })
