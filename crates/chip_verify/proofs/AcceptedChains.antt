-- A good chain is accepted, one certificate after another, and its terminal is then verified.
use Rattle.std.proofs.Common.{◌≡◌, ◌≢◌, ◌⊎◌, inl, inr, ◌≤◌, ℕ, max, List, [], ◌∷◌, ◌++◌, Option, Some, None, Bool, true, false, cond, refl, sym, ◌∙◌, ap, subst, arith, ⊎_elim}
use Rattle.std.proofs.lemmas.Bool.Decides.{nat_tests}
use Rattle.std.specs.Prelude.{IfSome, not, ◌&&◌, ◌||◌, nat_lt, nat_le}
use Rattle.std.specs.Str.{bytes_eq}
use Rattle.eac_base.proofs.EqualBytes.{bytes_eq-self, bytes_eq-true}
use Rattle.eac_base.specs.Bytes.{is_empty}
use Rattle.chat_rights.specs.declared.Role.TheVariants.{Foreign, Domestic}
use Rattle.signature_provider.specs.Key.{is_elliptic}
use Rattle.signature_provider.specs.Provider.{Says}
use Rattle.signature_provider.specs.declared.key.Algorithm.{Algorithm}
use Rattle.cvc_grammar.specs.declared.certificate.CertBody.{CertBody}
use Rattle.cvc_grammar.specs.declared.certificate.Cert.{Cert}
use Rattle.chip_verify.specs.declared.trust_point.TrustPoint.{TrustPoint}
use Rattle.chip_verify.specs.declared.answers.ImportRefusal.TheVariants as refusal
use Rattle.chip_verify.specs.Trust.{Trust, points, older_points, ComesBefore, IsTrust}
use Rattle.chip_verify.specs.Session.{SessionValue, no_session}
use Rattle.chip_verify.specs.Later.{IsAmong}
use Rattle.signature_provider.specs.Key.{same_algorithm}
use Rattle.chip_verify.specs.Refusals.{Sort, Link, OfVerifier, OfTerminal, sort_of, is_link, Issuer, Point, Verifier, key_of, older_named, verifier_named, or_else, issuer_of, is_held, template_of, first_refusal}
use Rattle.chip_verify.specs.Step.{trust_after, session_after, verified, Step, verdict_under, verdict_on}
use Rattle.chip_verify.specs.GoodChain.{IsLink, AreLinks, points_with, latest, IsVerifier, IsTerminal, IsNone, GoodChain, Accepts}
use Rattle.chip_verify.proofs.Links.{step_trust, behind_kind}

same_true : (a b : List ℕ) → a ≡ b → bytes_eq a b ≡ true
same_true a b e = subst (λ (x : List ℕ). bytes_eq a x ≡ true) e (bytes_eq-self a)

same_false : (a b : List ℕ) → a ≢ b → bytes_eq a b ≡ false
same_false a b ne = go (bytes_eq a b) refl
  where
    go : (t : Bool) → bytes_eq a b ≡ t → bytes_eq a b ≡ false
    go true is = absurd (ne (bytes_eq-true a b is))
    go false is = is

-- a test that fails at its front fails
and_front : (a b : Bool) → a ≡ false → (a && b) ≡ false
and_front a b e = ap (λ (x : Bool). x && b) e

not_held : (t : Trust) (c : CertBody) → (is_link (sort_of c.template.role) && bytes_eq c.holder t.newest.reference) ≡ false → is_held t c ≡ false
not_held t c e = and_front _ _ (and_front _ _ (and_front _ _ (and_front _ _ e)))

same_algorithm_refl : (a b : Algorithm) → a ≡ b → same_algorithm a b ≡ true
same_algorithm_refl a b e = subst (λ (x : Algorithm). same_algorithm a x ≡ true) e (grind (arith, nat_tests))

own_key : (c : CertBody) (i : Issuer) → c.key.algorithm ≡ (key_of i).algorithm → c.key.domain ≡ [] → (not (is_empty c.key.domain) || not (same_algorithm c.key.algorithm (key_of i).algorithm)) ≡ false
own_key c i same none = λ j. not (is_empty (none j)) || not (same_algorithm_refl c.key.algorithm (key_of i).algorithm same j)

not_expired : (day until : ℕ) → day ≤ until → nat_lt until day ≡ false
not_expired day until le = grind (arith, nat_tests)

link_key : (k issuer : Algorithm) (domain : List ℕ) → ((domain ≢ []) ⊎ ((is_elliptic issuer ≡ true) ⊎ (is_elliptic k ≢ true))) → (is_elliptic k && is_empty domain && not (is_elliptic issuer)) ≡ false
link_key k issuer [] (inl own) = absurd (own refl)
link_key k issuer (b ∷ bs) (inl own) = go (is_elliptic k)
  where
    go : (t : Bool) → (t && false && not (is_elliptic issuer)) ≡ false
    go true = refl
    go false = refl
link_key k issuer domain (inr (inl e)) = go (is_elliptic k && is_empty domain)
  where
    go : (t : Bool) → (t && not (is_elliptic issuer)) ≡ false
    go true = ap not e
    go false = refl
link_key k issuer domain (inr (inr rsa)) = go (is_elliptic k) refl
  where
    go : (t : Bool) → is_elliptic k ≡ t → (is_elliptic k && is_empty domain && not (is_elliptic issuer)) ≡ false
    go true is = absurd (rsa is)
    go false is = λ i. is i && is_empty domain && not (is_elliptic issuer)

module _ (says : Says) where
  -- a link under the newest point
  link_step : (t : Trust) (l : Cert) → IsLink says t.newest l → Step t no_session l.body (verdict_on says t no_session l) (trust_after Link t no_session l.body (Point t.newest)) no_session
  link_step t l h = record {
    issuer = Point t.newest;
    named = named;
    not_held = not_held t l.body (λ i. is_link (sort i) && same_false l.body.holder t.newest.reference (λ same. h.other (h.issuer ∙ sym same)) i);
    allowed = ap (λ (x : Sort × Option Issuer). first_refusal x.0 t l.body x.1) (λ i. (sort i, named i)) ∙ passes;
    yes = ap (λ (o : Option Issuer). verdict_under says o l) named ∙ h.said;
    trust = ap (λ (so : Sort). trust_after so t no_session l.body (Point t.newest)) (sym sort);
    session = ap (λ (so : Sort). session_after so no_session l.body (Point t.newest)) (sym sort);
  }
    where
      sort : sort_of l.body.template.role ≡ Link
      sort = ap sort_of h.role

      is_newest : bytes_eq t.newest.reference l.body.authority ≡ true
      is_newest = same_true t.newest.reference l.body.authority (sym h.issuer)

      named : issuer_of t no_session l.body ≡ Some (Point t.newest)
      named = λ i. cond (is_newest i) (Some (Point t.newest)) (or_else (older_named t.older l.body.authority) (verifier_named None l.body.authority))

      later : nat_le l.body.from t.newest.from ≡ false
      later = let lt = h.later in grind (arith, nat_tests)

      passes : first_refusal Link t l.body (Some (Point t.newest)) ≡ None
      passes = behind_kind l.body.template.kind (template_of (Point t.newest)).kind refusal.TypeDiffers _ ∙ λ i. cond (same_false l.body.authority l.body.holder h.other i) (Some refusal.Role)
          (cond (link_key l.body.key.algorithm t.newest.key.algorithm l.body.key.domain h.key i) (Some refusal.Parameters)
          (cond (not (is_newest i)) (Some refusal.Branch) (cond (later i) (Some refusal.NotLater) None)))

  -- what the links lead to
  record AfterLinks (t : Trust) (links : List Cert) : Type 0 where
    state : Trust
    accepts : Accepts says t no_session links state no_session
    trust : IsTrust state
    points_are : points state ≡ points_with t.newest (older_points t.older) links
    day_is : state.day ≡ latest t.day links

  after_links : (t : Trust) (links : List Cert) → IsTrust t → AreLinks says t.newest links → AfterLinks t links
  after_links t [] is h = record { state = t; accepts = (refl, refl); trust = is; points_are = refl; day_is = refl }
  after_links t (l ∷ ls) is h =
      let st = link_step t l h.0 in
      let mid = trust_after Link t no_session l.body (Point t.newest) in
      let r = after_links mid ls (step_trust t no_session l.body _ mid no_session is st) h.1 in
      record { state = r.state; accepts = (mid, no_session, st, r.accepts); trust = r.trust; points_are = r.points_are; day_is = r.day_is }

  -- the issuer is the point that is named
  point_named : (t : Trust) (s : SessionValue) (c : CertBody) (p : TrustPoint) → IsTrust t → IsAmong p (points t) → c.authority ≡ p.reference → issuer_of t s c ≡ Some (Point p)
  point_named t s c p is (inl same) at =
      let e = same_true t.newest.reference c.authority (sym (at ∙ ap (λ (q : TrustPoint). q.reference) same)) in
      (λ i. cond (e i) (Some (Point t.newest)) (or_else (older_named t.older c.authority) (verifier_named s.verifier c.authority))) ∙ ap (λ (q : TrustPoint). Some (Point q)) (sym same)
  point_named t s c p is (inr among) at = go t.older is.older among
    where
      go : (o : Option TrustPoint) → IfSome o (λ q. ComesBefore q t.newest) → IsAmong p (older_points o) → cond (bytes_eq t.newest.reference c.authority) (Some (Point t.newest)) (or_else (older_named o c.authority) (verifier_named s.verifier c.authority)) ≡ Some (Point p)
      go None h a = absurd a
      go (Some q) h (inr a) = absurd a
      go (Some q) h (inl same) =
          let there : c.authority ≡ q.reference = at ∙ ap (λ (x : TrustPoint). x.reference) same in
          let other = same_false t.newest.reference c.authority (λ e. h.reference (sym (e ∙ there))) in
          let e = same_true q.reference c.authority (sym there) in
          (λ i. cond (other i) (Some (Point t.newest)) (or_else (cond (e i) (Some (Point q)) None) (verifier_named s.verifier c.authority))) ∙ ap (λ (x : TrustPoint). Some (Point x)) (sym same)

  verifier_step : (t : Trust) (v : Cert) (p : TrustPoint) → IsTrust t → IsAmong p (points t) → IsVerifier says p t.day v → Step t no_session v.body (verdict_on says t no_session v) (trust_after OfVerifier t no_session v.body (Point p)) (session_after OfVerifier no_session v.body (Point p))
  verifier_step t v p is among h = record {
    issuer = Point p;
    named = named;
    not_held = not_held t v.body (λ i. is_link (sort i) && bytes_eq v.body.holder t.newest.reference);
    allowed = ap (λ (x : Sort × Option Issuer). first_refusal x.0 t v.body x.1) (λ i. (sort i, named i)) ∙ passes;
    yes = ap (λ (o : Option Issuer). verdict_under says o v) named ∙ h.said;
    trust = ap (λ (so : Sort). trust_after so t no_session v.body (Point p)) (sym sort);
    session = ap (λ (so : Sort). session_after so no_session v.body (Point p)) (sym sort);
  }
    where
      sort : sort_of v.body.template.role ≡ OfVerifier
      sort = ⊎_elim (λ (d : v.body.template.role ≡ Domestic). ap sort_of d) (λ (f : v.body.template.role ≡ Foreign). ap sort_of f) h.role

      named : issuer_of t no_session v.body ≡ Some (Point p)
      named = point_named t no_session v.body p is among h.issuer

      passes : first_refusal OfVerifier t v.body (Some (Point p)) ≡ None
      passes = behind_kind v.body.template.kind (template_of (Point p)).kind refusal.TypeDiffers _ ∙ λ i. cond (own_key v.body (Point p) h.key.0 h.key.1 i) (Some refusal.Parameters)
          (cond (not_expired t.day p.until h.alive.0 i) (Some refusal.IssuerExpired)
          (cond (not_expired t.day v.body.until h.alive.1 i) (Some refusal.Expired) None))

  no_point : (t : Trust) (s : SessionValue) (c : CertBody) → IsNone (points t) c.authority → issuer_of t s c ≡ verifier_named s.verifier c.authority
  no_point t s c none = (λ i. cond (same_false t.newest.reference c.authority none.0 i) (Some (Point t.newest)) (or_else (older_named t.older c.authority) (verifier_named s.verifier c.authority))) ∙ go t.older none.1
    where
      go : (o : Option TrustPoint) → IsNone (older_points o) c.authority → or_else (older_named o c.authority) (verifier_named s.verifier c.authority) ≡ verifier_named s.verifier c.authority
      go None h = refl
      go (Some q) h = λ i. or_else (cond (same_false q.reference c.authority h.0 i) (Some (Point q)) None) (verifier_named s.verifier c.authority)

  abbrev v_session : Cert → TrustPoint → SessionValue
  v_session v p = session_after OfVerifier no_session v.body (Point p)

  abbrev v_issuer : Cert → TrustPoint → Issuer
  v_issuer v p = Verifier (verified v.body (Point p))

  terminal_step : (t : Trust) (v w : Cert) (p : TrustPoint) → IsNone (points t) w.body.authority → IsTerminal says p v t.day w → (let s : SessionValue = session_after OfVerifier no_session v.body (Point p) in Step t s w.body (verdict_on says t s w) (trust_after OfTerminal t s w.body (Verifier (verified v.body (Point p)))) (session_after OfTerminal s w.body (Verifier (verified v.body (Point p)))))
  terminal_step t v w p none h = record {
    issuer = (v_issuer v p);
    named = named;
    not_held = not_held t w.body (λ i. is_link (sort i) && bytes_eq w.body.holder t.newest.reference);
    allowed = ap (λ (x : Sort × Option Issuer). first_refusal x.0 t w.body x.1) (λ i. (sort i, named i)) ∙ passes;
    yes = ap (λ (o : Option Issuer). verdict_under says o w) named ∙ h.said;
    trust = ap (λ (so : Sort). trust_after so t (v_session v p) w.body (v_issuer v p)) (sym sort);
    session = ap (λ (so : Sort). session_after so (v_session v p) w.body (v_issuer v p)) (sym sort);
  }
    where
      sort : sort_of w.body.template.role ≡ OfTerminal
      sort = ap sort_of h.role

      named : issuer_of t (v_session v p) w.body ≡ Some (v_issuer v p)
      named = no_point t (v_session v p) w.body none ∙ (λ i. cond (same_true v.body.holder w.body.authority (sym h.issuer) i) (Some (v_issuer v p)) None)

      passes : first_refusal OfTerminal t w.body (Some (v_issuer v p)) ≡ None
      passes = behind_kind w.body.template.kind (template_of (v_issuer v p)).kind refusal.TypeDiffers _ ∙ λ i. cond (own_key w.body (v_issuer v p) h.key.0 h.key.1 i) (Some refusal.Parameters)
          (cond (not_expired t.day v.body.until h.alive.0 i) (Some refusal.IssuerExpired)
          (cond (not_expired t.day w.body.until h.alive.1 i) (Some refusal.Expired) None))

  accepts_append : (t : Trust) (s : SessionValue) (cs ds : List Cert) (mid : Trust) (next : SessionValue) (t' : Trust) (s' : SessionValue) → Accepts says t s cs mid next → Accepts says mid next ds t' s' → Accepts says t s (cs ++ ds) t' s'
  accepts_append t s [] ds mid next t' s' a b = subst (λ (x : Trust × SessionValue). Accepts says x.0 x.1 ds t' s') (λ i. (a.0 i, a.1 i)) b
  accepts_append t s (c ∷ cs) ds mid next t' s' a b = (a.0, a.1, a.2, accepts_append a.0 a.1 cs ds mid next t' s' a.3 b)

  -- a good chain is accepted, and then the session has its terminal
  pub good_chain_accepted : (t : Trust) (links : List Cert) (v w : Cert) → IsTrust t → GoodChain says t links v w → (t' : Trust) × (s' : SessionValue) × Accepts says t no_session (links ++ v ∷ w ∷ []) t' s' × (s'.terminal ≡ Some w.body.template.rights)
  good_chain_accepted t links v w is g =
      let a = after_links t links is g.linked_up in
      let among = subst (IsAmong g.point) (sym a.points_are) g.among in
      let verifier = subst (λ (d : ℕ). IsVerifier says g.point d v) (sym a.day_is) g.verifier in
      let one = verifier_step a.state v g.point a.trust among verifier in
      let mid = trust_after OfVerifier a.state no_session v.body (Point g.point) in
      let s = session_after OfVerifier no_session v.body (Point g.point) in
      let terminal : IsTerminal says g.point v mid.day w = subst (λ (d : ℕ). IsTerminal says g.point v (max d v.body.from) w) (sym a.day_is) g.terminal in
      let own : IsNone (points mid) w.body.authority = subst (λ (ps : List TrustPoint). IsNone ps w.body.authority) (sym a.points_are) g.own in
      let two = terminal_step mid v w g.point own terminal in
      (_, _, accepts_append t no_session links (v ∷ w ∷ []) a.state no_session _ _ a.accepts (mid, s, one, (_, _, two, (refl, refl))), refl)
