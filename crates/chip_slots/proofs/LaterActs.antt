-- After more acts a chip's trust is a later one, and so is what an image reads as.
use Rattle.std.proofs.Common.{◌≡◌, inl, inr, ℕ, List, [], ◌∷◌, ◌++◌, Option, Some, None, Result, Ok, Err, Bool, true, false, cond, refl, sym, ◌∙◌, ap, subst}
use Rattle.std.specs.Prelude.{is_some, not, ◌||◌}
use Rattle.cvc_grammar.specs.ReadingOrder.{read_cert}
use Rattle.cvc_grammar.specs.declared.certificate.Cert.{Cert}
use Rattle.cvc_grammar.specs.declared.certificate.CertBody.{CertBody}
use Rattle.cvc_grammar.specs.declared.refusal.CvcRefusal.{CvcRefusal}
use Rattle.chip_verify.specs.declared.answers.ImportRefusal.{ImportRefusal}
use Rattle.chip_verify.specs.declared.trust_point.TrustPoint.{TrustPoint}
use Rattle.chip_verify.specs.Trust.{Trust, IsTrust, points}
use Rattle.chip_verify.specs.Session.{SessionValue, no_session}
use Rattle.chip_verify.specs.Later.{Later, IsAmong}
use Rattle.chip_verify.specs.Refusals.{Issuer, sort_of, issuer_of, is_held, refusal_of}
use Rattle.chip_verify.specs.Step.{Step, trust_after, session_after}
use Rattle.chip_slots.specs.Acts.{Deed, Made, Opened, Given, Act, moved, given, does, after, trust_of, IsTaken, IsSure, IsMaking, NoMaking}
use Rattle.chip_slots.specs.Moments.{MayRead}
use Rattle.chip_slots.proofs.RunsOfActs.{not_sure}

pub record OnFrom (t t' : Trust) : Type 0 where
  pub later : Later t t'
  pub trust : IsTrust t'

module _ (later_same : (t : Trust) → Later t t) (later_then : (t u v : Trust) → IsTrust t → Later t u → Later u v → Later t v) (step_later : (t : Trust) (s : SessionValue) (c : CertBody) (verdict : Bool) (t' : Trust) (s' : SessionValue) → IsTrust t → Step t s c verdict t' s' → Later t t') (step_trust : (t : Trust) (s : SessionValue) (c : CertBody) (verdict : Bool) (t' : Trust) (s' : SessionValue) → IsTrust t → Step t s c verdict t' s' → IsTrust t') where
  stays : (t : Trust) → IsTrust t → OnFrom t t
  stays t is = record { later = later_same t; trust = is }

  -- what was given leaves a later trust
  given_later : (t : Trust) (s : SessionValue) (c : Result Cert CvcRefusal) (verdict : Bool) → IsTrust t → OnFrom t (given t s c verdict).0
  given_later t s (Err e) verdict is = stays t is
  given_later t s (Ok c) verdict is = go (is_held t c.body) refl (refusal_of t s c.body) refl verdict refl (issuer_of t s c.body) refl
    where
      go : (held : Bool) → is_held t c.body ≡ held → (refused : Option ImportRefusal) → refusal_of t s c.body ≡ refused → (said : Bool) → verdict ≡ said → (i : Option Issuer) → issuer_of t s c.body ≡ i → OnFrom t (cond (held || is_some refused || not said) (t, s) (moved t s c.body i)).0
      go true h r rr said y i ii = stays t is
      go false h (Some k) rr said y i ii = stays t is
      go false h None rr false y i ii = stays t is
      go false h None rr true y None ii = stays t is
      go false h None rr true y (Some i) ii =
          let st : Step t s c.body verdict (trust_after (sort_of c.body.template.role) t s c.body i) (session_after (sort_of c.body.template.role) s c.body i) =
          record { issuer = i; named = ii; not_held = h; allowed = rr; yes = y; trust = refl; session = refl } in
          record { later = step_later t s c.body verdict _ _ is st; trust = step_trust t s c.body verdict _ _ is st }

  -- acts without a making
  pub no_way_back : (more acts : List Act) → NoMaking more → (t : Trust) (s : SessionValue) → after acts ≡ Some (t, s) → IsTrust t → (ts : Trust × SessionValue) × (after (more ++ acts) ≡ Some ts) × OnFrom t ts.0
  no_way_back [] acts none t s is trust = ((t, s), is, stays t trust)
  no_way_back (a ∷ more) acts none t s is trust = go a.deed none.0 (no_way_back more acts none.1 t s is trust)
    where
      go : (d : Deed) → (IsMaking d → ⊥) → ((ts : Trust × SessionValue) × (after (more ++ acts) ≡ Some ts) × OnFrom t ts.0) → (ts : Trust × SessionValue) × (does d (after (more ++ acts)) ≡ Some ts) × OnFrom t ts.0
      go (Made u) never r = absurd (never tt)
      go Opened never r = ((r.0.0, no_session), ap (does Opened) r.1, r.2)
      go (Given bytes verdict) never r =
          let next = given r.0.0 r.0.1 (read_cert bytes) verdict in
          let g = given_later r.0.0 r.0.1 (read_cert bytes) verdict r.2.trust in
          (next, ap (does (Given bytes verdict)) r.1, record { later = later_then t r.0.0 next.0 trust r.2.later g.later; trust = g.trust })

-- the acts of a list, but some of the newest: what stands of them has the sure act and all that was taken below it
pub record Has (taken below : List Act) (a : Act) : Type 0 where
  pub more : List Act
  pub split : taken ≡ more ++ a ∷ below
  pub none : NoMaking more

module _ (a : Act) (older below : List Act) (m : ℕ) (sure : IsSure a m) (only : (t : List Act) → IsTaken older m t → t ≡ below) where
  taken_has : (newer taken : List Act) → NoMaking newer → IsTaken (newer ++ a ∷ older) m taken → Has taken below a
  taken_has [] taken none (inl t) = record { more = []; split = t.3 ∙ ap (λ (l : List Act). a ∷ l) (only t.0 t.4); none = tt }
  taken_has [] taken none (inr t) = absurd (not_sure a m t.0 sure)
  taken_has (b ∷ newer) taken none (inl t) =
      let h = taken_has newer t.0 none.1 t.4 in
      record { more = b ∷ h.more; split = t.3 ∙ ap (λ (l : List Act). b ∷ l) h.split; none = (none.0, h.none) }
  taken_has (b ∷ newer) taken none (inr t) = taken_has newer taken none.1 t.1

  -- what may be read at that moment is after the sure act and some newer ones
  pub read_has : (newer : List Act) (o : Option Trust) → NoMaking newer → MayRead (newer ++ a ∷ older) m o → (more : List Act) × NoMaking more × (o ≡ trust_of (after (more ++ a ∷ below)))
  read_has [] o none (inl r) = ([], tt, r.4 ∙ ap (λ (l : List Act). trust_of (does a.deed (after l))) (only r.0 r.3))
  read_has [] o none (inr r) = absurd (r.0 sure)
  read_has (b ∷ newer) o none (inl r) =
      let h = taken_has newer r.0 none.1 r.3 in
      (b ∷ h.more, (none.0, h.none), r.4 ∙ ap (λ (l : List Act). trust_of (does b.deed (after l))) h.split)
  read_has (b ∷ newer) o none (inr r) = read_has newer o none.1 r.1

-- a point that was replaced stays away
pub away_for_good : ((more acts : List Act) → NoMaking more → (t : Trust) (s : SessionValue) → after acts ≡ Some (t, s) → IsTrust t → (ts : Trust × SessionValue) × (after (more ++ acts) ≡ Some ts) × Later t ts.0 × IsTrust ts.0) → ((t u v : Trust) (p : TrustPoint) → IsTrust t → IsTrust u → Later t u → Later u v → IsAmong p (points t) → (IsAmong p (points u) → ⊥) → IsAmong p (points v) → ⊥) → (most more acts : List Act) → NoMaking most → NoMaking more → (t u v : Trust) (s s' s'' : SessionValue) (p : TrustPoint) → after acts ≡ Some (t, s) → after (more ++ acts) ≡ Some (u, s') → after (most ++ (more ++ acts)) ≡ Some (v, s'') → IsTrust t → IsAmong p (points t) → (IsAmong p (points u) → ⊥) → IsAmong p (points v) → ⊥
away_for_good goes_on never_back most more acts none_most none_more t u v s s' s'' p is_t is_u is_v trust among gone =
    let first = goes_on more acts none_more t s is_t trust in
    let same_u : first.0.0 ≡ u = same_trust first.0 (u, s') (sym first.1 ∙ is_u) in
    let later_u : Later t u = subst (Later t) same_u first.2 in
    let trust_u : IsTrust u = subst IsTrust same_u first.3 in
    let next = goes_on most (more ++ acts) none_most u s' is_u trust_u in
    let same_v : next.0.0 ≡ v = same_trust next.0 (v, s'') (sym next.1 ∙ is_v) in
    never_back t u v p trust trust_u later_u (subst (Later u) same_v next.2) among gone
  where
    same_trust : (a b : Trust × SessionValue) → Some a ≡ Some b → a.0 ≡ b.0
    same_trust a b e = let pair : a ≡ b = cc in ap (λ (x : Trust × SessionValue). x.0) pair
