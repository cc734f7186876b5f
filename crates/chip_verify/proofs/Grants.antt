-- A session grants what its accepted verifier, the last terminal and the verifier's trust point have in common.
use Rattle.std.proofs.Common.{◌≡◌, inl, inr, ℕ, List, [], ◌∷◌, Option, Some, None, Bool, refl, sym, ◌∙◌, ap, subst}
use Rattle.std.specs.Prelude.{bit_and, ◌↔◌}
use Rattle.cvc_grammar.specs.declared.certificate.CertBody.{CertBody}
use Rattle.chip_verify.specs.declared.trust_point.TrustPoint.{TrustPoint}
use Rattle.chip_verify.specs.declared.session.Verified.{Verified}
use Rattle.chip_verify.specs.declared.answers.ImportRefusal.TheVariants as refusal
use Rattle.chip_verify.specs.Trust.{Trust}
use Rattle.chip_verify.specs.Session.{SessionValue, no_session, granted_by, granted}
use Rattle.chip_verify.specs.Refusals.{Sort, Link, OfVerifier, OfTerminal, sort_of, Issuer, Point, Verifier, first_refusal}
use Rattle.chip_verify.specs.Step.{session_after, verified, Step}
use Rattle.chip_verify.specs.Grant.{StandInAll, IsGrant, grant, Accepted, Leads, verifier_at, HasVerifier, EndsWith, Granting}
use Rattle.chip_verify.proofs.Links.{behind_kind}
use Rattle.chip_verify.proofs.GoodChains.{session_found}
use Rattle.chat_rights.proofs.Bits.{Grants-bit_and as both}

-- a session that has this verifier under this point
pub record Under (told : List Accepted) (u : Verified) : Type 0 where
  pub point : TrustPoint
  pub body : CertBody
  pub has : HasVerifier told point body
  pub same : u ≡ verified body (Point point)

pub record Ending (told : List Accepted) (s : SessionValue) (r : ℕ) : Type 0 where
  pub point : TrustPoint
  pub body : CertBody
  pub last : CertBody
  pub ends : EndsWith told point body last
  pub rights : r ≡ last.template.rights
  pub verifier : s.verifier ≡ Some (verified body (Point point))

-- the session stands for what was accepted
pub record StandsFor (s : SessionValue) (told : List Accepted) : Type 0 where
  pub verifier : (u : Verified) → s.verifier ≡ Some u → Under told u
  pub terminal : (r : ℕ) → s.terminal ≡ Some r → Ending told s r
  pub has : (p : TrustPoint) (v : CertBody) → HasVerifier told p v → s.verifier ≡ Some (verified v (Point p))
  pub ends : (p : TrustPoint) (v w : CertBody) → EndsWith told p v w → (s.terminal ≡ Some w.template.rights) × (s.verifier ≡ Some (verified v (Point p)))

empty_stands : StandsFor no_session []
empty_stands = record {
  verifier = λ u e. absurd (cc);
  terminal = λ r e. absurd (cc);
  has = λ p v h. absurd h;
  ends = λ p v w h. absurd h;
}

module _ (t : Trust) (s : SessionValue) (c : CertBody) (verdict : Bool) (t' : Trust) (s' : SessionValue) (st : Step t s c verdict t' s') (told : List Accepted) (h : StandsFor s told) where
  abbrev one : Accepted
  one = record { body = c; issuer = st.issuer }

  passed : (so : Sort) (i : Issuer) → sort_of c.template.role ≡ so → st.issuer ≡ i → first_refusal so t c (Some i) ≡ None
  passed so i sort who = subst (λ (x : Sort × Option Issuer). first_refusal x.0 t c x.1 ≡ None) (λ j. (sort j, (st.named ∙ ap Some who) j)) st.allowed

  has_at : (so : Sort) → sort_of c.template.role ≡ so → (p : TrustPoint) (v : CertBody) → HasVerifier (one ∷ told) p v → verifier_at so one (HasVerifier told p v) p v
  has_at so sort p v x = subst (λ (k : Sort). verifier_at k one (HasVerifier told p v) p v) sort x

  at_has : (so : Sort) → sort_of c.template.role ≡ so → (p : TrustPoint) (v : CertBody) → verifier_at so one (HasVerifier told p v) p v → HasVerifier (one ∷ told) p v
  at_has so sort p v x = subst (λ (k : Sort). verifier_at k one (HasVerifier told p v) p v) (sym sort) x

  of_verifier : sort_of c.template.role ≡ OfVerifier → (i : Issuer) → st.issuer ≡ i → StandsFor (session_after OfVerifier s c st.issuer) (one ∷ told)
  of_verifier sort (Verifier u) who = let bad = sym (behind_kind c.template.kind u.template.kind refusal.TypeDiffers _) ∙ passed OfVerifier (Verifier u) sort who in absurd (cc)
  of_verifier sort (Point p) who = record {
    verifier = λ u e. let is : verified c st.issuer ≡ u = cc in record { point = p; body = c; has = at_has OfVerifier sort p c (refl, who); same = sym is ∙ ap (verified c) who };
    terminal = λ r e. absurd (cc);
    has = λ q v x. let y = has_at OfVerifier sort q v x in λ i. Some (verified (y.0 i) (y.1 i));
    ends = λ q v w x. absurd (cc (sym sort ∙ x.0));
  }

  of_terminal : sort_of c.template.role ≡ OfTerminal → (i : Issuer) → st.issuer ≡ i → StandsFor (session_after OfTerminal s c st.issuer) (one ∷ told)
  of_terminal sort (Point p) who = let bad = sym (behind_kind c.template.kind p.template.kind refusal.TypeDiffers _) ∙ passed OfTerminal (Point p) sort who in absurd (cc)
  of_terminal sort (Verifier u) who =
      let found = session_found t s c u (st.named ∙ ap Some who) in
      let under = h.verifier u found.there in
      record {
        verifier = λ x e. let r = h.verifier x e in record { point = r.point; body = r.body; has = at_has OfTerminal sort r.point r.body r.has; same = r.same };
        terminal = λ r e. let is : c.template.rights ≡ r = cc in record {
          point = under.point;
          body = under.body;
          last = c;
          ends = (sort, refl, under.has);
          rights = sym is;
          verifier = found.there ∙ ap Some under.same;
        };
        has = λ q v x. h.has q v (has_at OfTerminal sort q v x);
        ends = λ q v w x. (ap (λ (b : CertBody). Some b.template.rights) x.1, h.has q v x.2);
      }

  of_link : sort_of c.template.role ≡ Link → StandsFor (session_after Link s c st.issuer) (one ∷ told)
  of_link sort = record {
    verifier = λ u e. absurd (cc);
    terminal = λ r e. absurd (cc);
    has = λ q v x. absurd (has_at Link sort q v x);
    ends = λ q v w x. absurd (cc (sym sort ∙ x.0));
  }

  step_stands : StandsFor s' (one ∷ told)
  step_stands = subst (λ (x : SessionValue). StandsFor x (one ∷ told)) (sym st.session) (go (sort_of c.template.role) refl)
    where
      go : (so : Sort) → sort_of c.template.role ≡ so → StandsFor (session_after so s c st.issuer) (one ∷ told)
      go Link sort = of_link sort
      go OfVerifier sort = of_verifier sort st.issuer refl
      go OfTerminal sort = of_terminal sort st.issuer refl

leads_stands : (t : Trust) (s : SessionValue) (cs : List (CertBody × Bool)) (told : List Accepted) (t' : Trust) (s' : SessionValue) (told' : List Accepted) → StandsFor s told → Leads t s cs told t' s' told' → StandsFor s' told'
leads_stands t s [] told t' s' told' h l = subst (λ (x : SessionValue × List Accepted). StandsFor x.0 x.1) (λ i. (sym l.1 i, sym l.2 i)) h
leads_stands t s (c ∷ cs) told t' s' told' h (inl l) = leads_stands l.0 l.1 cs (record { body = c.0; issuer = l.2.issuer } ∷ told) t' s' told' (step_stands t s c.0 c.1 l.0 l.1 l.2 told h) l.3
leads_stands t s (c ∷ cs) told t' s' told' h (inr l) = leads_stands t s cs told t' s' told' h l.1

-- the rights of three sets at once
three_sets : (a b c : ℕ) → StandInAll (bit_and a (bit_and b c)) c b a
three_sets a b c bit = ((λ g. let x = (both a (bit_and b c) bit).0 g in let y = (both b c bit).0 x.1 in (y.1, y.0, x.0)), (λ h. (both a (bit_and b c) bit).1 (h.2, (both b c bit).1 (h.1, h.0))))

-- what is granted is granted by the chain
pub granted_only : (s : SessionValue) (told : List Accepted) (g : ℕ) → StandsFor s told → granted s ≡ Some g → Granting told g
granted_only s told g h e = go s.terminal refl
  where
    go : (o : Option ℕ) → s.terminal ≡ o → Granting told g
    go None is = none s.verifier (ap (granted_by s.verifier) (sym is) ∙ e)
      where
        none : (v : Option Verified) → granted_by v None ≡ Some g → Granting told g
        none None e' = absurd (cc)
        none (Some u) e' = absurd (cc)
    go (Some r) is =
        let x = h.terminal r is in
        let whole : Some (bit_and r (bit_and (verified x.body (Point x.point)).template.rights (verified x.body (Point x.point)).root)) ≡ Some g = (λ i. granted_by (sym x.verifier i) (sym is i)) ∙ e in
        let bits : bit_and r (bit_and x.body.template.rights x.point.template.rights) ≡ g = cc in
        let number : g ≡ grant x.point x.body x.last = sym bits ∙ ap (λ (n : ℕ). bit_and n (bit_and x.body.template.rights x.point.template.rights)) x.rights in
        record { point = x.point; verifier = x.body; terminal = x.last; ends = x.ends; number = number; bits = subst (IsGrant x.point x.body x.last) (sym number) (three_sets x.last.template.rights x.body.template.rights x.point.template.rights) }

-- and the other way round
pub granted_all : (s : SessionValue) (told : List Accepted) (g : ℕ) → StandsFor s told → Granting told g → granted s ≡ Some g
granted_all s told g h x =
    let y = h.ends x.point x.verifier x.terminal x.ends in
    (λ i. granted_by (y.1 i) (y.0 i)) ∙ ap Some (sym x.number)

pub session_grants : (t : Trust) (cs : List (CertBody × Bool)) (t' : Trust) (s' : SessionValue) (told : List Accepted) → Leads t no_session cs [] t' s' told → (g : ℕ) → (granted s' ≡ Some g) ↔ Granting told g
session_grants t cs t' s' told l g =
    let h = leads_stands t no_session cs [] t' s' told empty_stands l in
    (granted_only s' told g h, granted_all s' told g h)
