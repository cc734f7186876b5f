-- The home row of a holder, and the request that is made with it.
use Rattle.std.proofs.Common.{◌≡◌, ℕ, List, false, true≢false, Some, None, Err, inl, refl, sym, ap, ◌∙◌, subst}
use Rattle.std.specs.Prelude.{IfOk, IfSome, IfErr, is_some, option_and_then}
use Rattle.std.specs.declared.option.Option.{Option}
use Rattle.std.specs.declared.result.Result.{Result}
use Rattle.eac_base.specs.Telling.{Told}
use Rattle.eac_base.proofs.Tellings.{told_more, told_then, told_same}
use Rattle.holder_reference.specs.Reference.{holder_part}
use Rattle.signature_provider.specs.Provider.{Says as Saying, Holds, Signed}
use Rattle.signature_provider.specs.declared.key.Key.{Key}
use Rattle.policy_limits.specs.Setup.{SetupValue, number_of}
use Rattle.keeper.specs.declared.rows.Row.{Row}
use Rattle.keeper.specs.declared.rows.Settled.{Settled}
use Rattle.keeper.specs.declared.rows.Table.TheVariants as table
use Rattle.keeper.specs.Rows.{row_at}
use Rattle.keeper.specs.Keeping.{IsAsked}
use Rattle.holder_core.specs.Faults.{HolderCause, KeeperCause, KeeperCaused}
use Rattle.holder_core.specs.Requesting.{Requests, RequestAsked, MissesOuter, home_signer}
use Rattle.holder_core.specs.Signers.{Signer, own_signer, settled_as}
use Rattle.holder_core.specs.WritesOnce.{WritesOnce}
use Rattle.holder_core.specs.declared.fault.HolderFault.{HolderFault}
use Rattle.holder_core.specs.declared.fault.HolderFault.TheVariants as fault
use Rattle.holder_core.specs.declared.made.Made.{Made}
use Rattle.cvca_desk.proofs.Causes.{cause_as}
use Rattle.eac_net.specs.Acting.{home_for, home_named, home_of, HomeFound, HomeFor, HomeAsked, MissesApplying}
use Rattle.eac_net.specs.Parties.{holder_at, own_named}

-- ---- a row that signs

pub signs_settled : (reference : List ℕ) (key : Key) (s : Option Settled) → is_some s ≡ is_some (settled_as reference key s)
signs_settled reference key None = refl
signs_settled reference key (Some s) = refl

none_of : (x : Option Signer) → is_some x ≡ false → None ≡ x
none_of None e = refl
none_of (Some s) e = absurd (true≢false e)

pub not_signing : (row : Row) → is_some (own_signer row) ≡ false → None ≡ own_signer row
not_signing row e = none_of (own_signer row) e

-- ---- the row of a reference

module _ (setup : SetupValue) (reference : List ℕ) where
  abbrev Named : Option Row → List Row → List Row → Type 0
  Named found before after = (after ≡ before) × (found ≡ own_named setup before reference)

  -- no party has its holder
  pub told_nobody : (rows : Option (List Row)) → number_of setup (holder_part reference) ≡ None → Told rows rows (Named None)
  told_nobody rows is = told_same (Named None) rows (λ before. (refl, ap (λ (n : Option ℕ). option_and_then (λ desk. row_at table.Own desk reference before) n) (sym is)))

  module _ (desk : ℕ) (is : number_of setup (holder_part reference) ≡ Some desk) where
    abbrev Looked : Option Row → List Row → List Row → Type 0
    Looked found before after = (after ≡ before) × (found ≡ row_at table.Own desk reference before)

    pub told_named : (a b : Option (List Row)) (found : Option Row) → Told a b (Looked found) → Told a b (Named found)
    told_named a b found told = told_more (Looked found) (Named found) a b told
        (λ before after h. (h.0, h.1 ∙ ap (λ (n : Option ℕ). option_and_then (λ d. row_at table.Own d reference before) n) (sym is)))

    pub named_asked : (found : Option Row) → IfSome found (IsAsked table.Own desk reference) → HomeFound setup (Some reference) found
    named_asked None h = tt
    named_asked (Some row) h = (desk, is, h)

-- ---- the home row

module _ (setup : SetupValue) (named : Option (List ℕ)) where
  abbrev IsHome : Option Row → List Row → List Row → Type 0
  IsHome home before after = (after ≡ before) × (home_signer home ≡ home_for setup named before)

  -- none is named
  pub told_bare : (rows : Option (List Row)) → named ≡ None → Told rows rows (IsHome None)
  told_bare rows is = told_same (IsHome None) rows (λ before. (refl, ap (λ (n : Option (List ℕ)). home_for setup n before) (sym is)))

  pub bare_asked : named ≡ None → HomeFor setup named None
  bare_asked is = record { found = None; asked = subst (λ (n : Option (List ℕ)). HomeFound setup n None) (sym is) refl; home_is = refl }

  module _ (reference : List ℕ) (is : named ≡ Some reference) (found home : Option Row) (same : home_signer home ≡ home_signer found) where
    pub told_home : (a b : Option (List Row)) → Told a b (Named setup reference found) → Told a b (IsHome home)
    told_home a b told = told_more (Named setup reference found) (IsHome home) a b told
        (λ before after h. (h.0, same ∙ ap home_signer h.1 ∙ ap (λ (n : Option (List ℕ)). home_for setup n before) (sym is)))

    pub home_asked : HomeFound setup (Some reference) found → HomeFor setup named (home_signer home)
    home_asked asked = record { found = found; asked = subst (λ (n : Option (List ℕ)). HomeFound setup n found) (sym is) asked; home_is = same }

-- it may not be there, whatever is named
pub none_asked : (setup : SetupValue) (named : Option (List ℕ)) → HomeFor setup named None
none_asked setup None = bare_asked setup None refl
none_asked setup (Some reference) = record { found = None; asked = tt; home_is = refl }

-- ---- the request: the home row couldn't be looked for

unwritten_by : {A : Type 0} (unwritten : Option A) (missing : Option (List ℕ)) (late : Option A) (Written : A → List Row → Type 0) (before after : List Row) (k k' : ℕ) (f : HolderFault) →
    KeeperCause f k k' → after ≡ before → WritesOnce unwritten missing late Written before after (Err f)
unwritten_by u m l W before after k k' fault.KeeperFault c same = inl same
unwritten_by u m l W before after k k' fault.ProviderFault c same = same
unwritten_by u m l W before after k k' fault.NoMemory c same = same
unwritten_by u m l W before after k k' (fault.NoKey reference) c same = absurd c

fault_caused : {A : Type 0} (k k' : ℕ) (f : HolderFault) (r : Result A HolderFault) → r ≡ Err f → KeeperCaused k k' r → KeeperCause f k k'
fault_caused {A} k k' f r is cause = subst (λ (x : Result A HolderFault). IfErr x (λ e. KeeperCause e k k')) is cause.failed

module _ (setup : SetupValue) (says : Saying) (held holds : Holds) (signed : Signed × Signed) (holder authority root : ℕ) where
  abbrev Made_of : Result Made HolderFault → List Row → List Row → Type 0
  Made_of result before after =
      Requests says held holds signed holder (holder_at setup holder) (holder_at setup authority) (holder_at setup root) (home_of setup authority holder before) before after result

  pub told_unlooked : {A : Type 0} (a b : Option (List Row)) (k k' : ℕ) (f : HolderFault) (looked : Result A HolderFault) → looked ≡ Err f → KeeperCaused k k' looked →
      Told a b (λ before after. after ≡ before) → Told a b (Made_of (Err f))
  told_unlooked a b k k' f looked is cause told = told_more (λ (before after : List Row). after ≡ before) (Made_of (Err f)) a b told
      (λ before after same. unwritten_by _ _ _ _ before after k k' f (fault_caused k k' f looked is cause) same)

  pub unlooked_asked : (f : HolderFault) → (home : Option Signer) × HomeAsked setup authority holder home × IfOk {E = HolderFault} (Err f)
      (RequestAsked says held holds signed holder (holder_at setup holder) (holder_at setup authority) (holder_at setup root) home)
  unlooked_asked f = (None, none_asked setup (home_named setup authority (holder_at setup holder)), tt)

  -- ---- and it could

  module _ (name asked below : List ℕ) (name_is : name ≡ holder_at setup holder) (asked_is : asked ≡ holder_at setup authority) (below_is : below ≡ holder_at setup root)
      (home : Option Row) (given : Option Signer) (given_is : given ≡ home_signer home) (result : Result Made HolderFault) where
    abbrev Given : List Row → List Row → Type 0
    Given before after = Requests says held holds signed holder name asked below given before after result

    pub told_request : (a b c : Option (List Row)) → Told a b (IsHome setup (home_named setup authority name) home) → Told b c Given → Told a c (Made_of result)
    told_request a b c looked told = told_then (IsHome setup (home_named setup authority name) home) Given (Made_of result) a b c looked told
        (λ before mid after h t.
        let home_is : given ≡ home_of setup authority holder before = given_is ∙ h.1 ∙ ap (λ (n : List ℕ). home_for setup (home_named setup authority n) before) name_is in
        subst (λ (x : List ℕ × (List ℕ × (List ℕ × (Option Signer × List Row)))). Requests says held holds signed holder x.0 x.1.0 x.1.1.0 x.1.1.1.0 x.1.1.1.1 after result)
        (λ j. (name_is j, (asked_is j, (below_is j, (home_is j, h.0 j))))) t)

    home_so : HomeFor setup (home_named setup authority name) (home_signer home) → HomeAsked setup authority holder given
    home_so h = subst (λ (x : List ℕ × Option Signer). HomeFor setup (home_named setup authority x.0) x.1) (λ j. (name_is j, sym given_is j)) h

    pub request_asked : HomeFor setup (home_named setup authority name) (home_signer home) → IfOk result (RequestAsked says held holds signed holder name asked below given) →
        (h : Option Signer) × HomeAsked setup authority holder h × IfOk result
        (RequestAsked says held holds signed holder (holder_at setup holder) (holder_at setup authority) (holder_at setup root) h)
    request_asked looked answered = (
      given,
      home_so looked,
      subst (λ (x : List ℕ × (List ℕ × List ℕ)). IfOk result (RequestAsked says held holds signed holder x.0 x.1.0 x.1.1 given)) (λ j. (name_is j, (asked_is j, below_is j))) answered,
    )

    pub request_cause : (first : ℕ) (k p : ℕ × ℕ) → k.0 ≡ first → HomeFor setup (home_named setup authority name) (home_signer home) → HolderCause (MissesOuter held holder asked below given) k p result →
        HolderCause (MissesApplying setup held holder authority root) (first, k.1) p result
    request_cause first k p same looked cause = cause_as (MissesOuter held holder asked below given) (MissesApplying setup held holder authority root) first k p result same
        (λ reference misses. record {
          home = given;
          home_asked = home_so looked;
          misses = subst (λ (x : List ℕ × List ℕ). MissesOuter held holder x.0 x.1 given reference) (λ j. (asked_is j, below_is j)) misses;
        }) cause
