-- What is accepted in the roles of a chain is a good chain.
use Rattle.std.proofs.Common.{◌≡◌, ◌≢◌, ◌⊎◌, inl, inr, ◌≤◌, ℕ, List, [], ◌∷◌, ◌++◌, Option, Some, None, Bool, true, false, cond, refl, sym, ◌∙◌, ap, subst, arith, ⊎_elim}
use Rattle.std.proofs.lemmas.Bool.Decides.{nat_tests}
use Rattle.std.specs.Prelude.{not, ◌&&◌, ◌||◌, nat_lt, ◌↔◌}
use Rattle.std.specs.Str.{bytes_eq}
use Rattle.eac_base.proofs.EqualBytes.{bytes_eq-self, bytes_eq-true}
use Rattle.eac_base.specs.Bytes.{is_empty}
use Rattle.chat_rights.specs.declared.Role.{Role}
use Rattle.chat_rights.specs.declared.Role.TheVariants.{Terminal, Foreign, Domestic, Cvca}
use Rattle.signature_provider.specs.Key.{is_elliptic, same_algorithm}
use Rattle.signature_provider.specs.Provider.{Says}
use Rattle.signature_provider.specs.declared.key.Algorithm.{Algorithm}
use Rattle.cvc_grammar.specs.declared.certificate.CertBody.{CertBody}
use Rattle.cvc_grammar.specs.declared.certificate.Cert.{Cert}
use Rattle.chip_verify.specs.declared.trust_point.TrustPoint.{TrustPoint}
use Rattle.chip_verify.specs.declared.session.Verified.{Verified}
use Rattle.chip_verify.specs.declared.answers.ImportRefusal.TheVariants as refusal
use Rattle.chip_verify.specs.Trust.{Trust, points, older_points, IsTrust}
use Rattle.chip_verify.specs.Session.{SessionValue, no_session}
use Rattle.chip_verify.specs.Later.{IsAmong}
use Rattle.chip_verify.specs.Refusals.{Sort, Link, OfVerifier, OfTerminal, sort_of, Issuer, Point, Verifier, older_named, verifier_named, or_else, issuer_of, wrong_role, first_refusal}
use Rattle.chip_verify.specs.Step.{trust_after, session_after, verified, Step, verdict_under, verdict_on}
use Rattle.chip_verify.specs.GoodChain.{linked, IsLink, AreLinks, IsVerifier, IsTerminal, IsNone, GoodChain, Accepts, AllLinks, AreInOrder, IsAccepted}
use Rattle.chip_verify.proofs.AcceptedChains.{good_chain_accepted}
use Rattle.chip_verify.proofs.Links.{behind_kind, found_none, either_false, link_facts}

role_link : (r : Role) → sort_of r ≡ Link → r ≡ Cvca
role_link Cvca e = refl
role_link Domestic e = absurd (cc)
role_link Foreign e = absurd (cc)
role_link Terminal e = absurd (cc)

role_verifier : (r : Role) → sort_of r ≡ OfVerifier → (r ≡ Domestic) ⊎ (r ≡ Foreign)
role_verifier Domestic e = inl refl
role_verifier Foreign e = inr refl
role_verifier Cvca e = absurd (cc)
role_verifier Terminal e = absurd (cc)

role_terminal : (r : Role) → sort_of r ≡ OfTerminal → r ≡ Terminal
role_terminal Terminal e = refl
role_terminal Domestic e = absurd (cc)
role_terminal Foreign e = absurd (cc)
role_terminal Cvca e = absurd (cc)

differ : (a b : List ℕ) → bytes_eq a b ≡ false → a ≢ b
differ a b e same = absurd (cc (e, subst (λ (x : List ℕ). bytes_eq a x ≡ true) same (bytes_eq-self a)))

empty_is : (xs : List ℕ) → not (is_empty xs) ≡ false → xs ≡ []
empty_is [] e = refl
empty_is (x ∷ xs) e = absurd (cc)

same_parts : (a b : Algorithm) → not (same_algorithm a b) ≡ false → a ≡ b
same_parts a b e =
    let arcs : a.arc ≡ b.arc = grind (arith, nat_tests) in
    let lasts : a.last ≡ b.last = grind (arith, nat_tests) in
    λ i. record { arc = arcs i; last = lasts i }

not_before : (a b : ℕ) → nat_lt a b ≡ false → b ≤ a
not_before a b e = grind (arith, nat_tests)

link_key_back : (k issuer : Bool) (domain : List ℕ) → (k && is_empty domain && not issuer) ≡ false → (domain ≢ []) ⊎ ((issuer ≡ true) ⊎ (k ≢ true))
link_key_back false issuer domain e = inr (inr (λ h. absurd (cc)))
link_key_back true true domain e = inr (inl refl)
link_key_back true false [] e = absurd (cc)
link_key_back true false (x ∷ xs) e = inl (λ h. absurd (cc))

some_same : (a b : Issuer) → Some a ≡ Some b → a ≡ b
some_same a b e = cc

module _ (says : Says) where
  pub link_back : (t : Trust) (l : Cert) (t' : Trust) (s' : SessionValue) → Step t no_session l.body (verdict_on says t no_session l) t' s' → sort_of l.body.template.role ≡ Link → IsLink says t.newest l × (t' ≡ trust_after Link t no_session l.body (Point t.newest)) × (s' ≡ no_session)
  link_back t l t' s' st sort =
      let f = link_facts t no_session l.body st.issuer st.named st.allowed sort in
      let at : t.newest.reference ≡ l.body.authority = bytes_eq-true t.newest.reference l.body.authority f.newest in
      let is : issuer_of t no_session l.body ≡ Some (Point t.newest) = λ i. cond (f.newest i) (Some (Point t.newest)) (or_else (older_named t.older l.body.authority) (verifier_named None l.body.authority)) in
      let who : st.issuer ≡ Point t.newest = some_same st.issuer (Point t.newest) (sym st.named ∙ is) in
      let refused : first_refusal Link t l.body (Some (Point t.newest)) ≡ None = subst (λ (p : Sort × Option Issuer). first_refusal p.0 t l.body p.1 ≡ None) (λ j. (sort j, is j)) st.allowed in
      let role = found_none (wrong_role l.body (Point t.newest) Link) _ _ (sym (behind_kind l.body.template.kind t.newest.template.kind refusal.TypeDiffers _) ∙ refused) in
      let key = found_none (is_elliptic l.body.key.algorithm && is_empty l.body.key.domain && not (is_elliptic t.newest.key.algorithm)) _ _ role.1 in (
        record {
          role = role_link l.body.template.role sort;
          other = differ l.body.authority l.body.holder f.other;
          issuer = sym at;
          later = f.later;
          key = link_key_back (is_elliptic l.body.key.algorithm) (is_elliptic t.newest.key.algorithm) l.body.key.domain key.0;
          said = sym (ap (λ (o : Option Issuer). verdict_under says o l) is) ∙ st.yes;
        },
        st.trust ∙ (λ i. trust_after (sort i) t no_session l.body (who i)),
        st.session ∙ (λ i. session_after (sort i) no_session l.body (who i)),
      )

point_is : (p q : TrustPoint) → Some (Point q) ≡ Some (Point p) → p ≡ q
point_is p q e = let i : Point q ≡ Point p = cc in cc

not_session : (v : Option Verified) (reference : List ℕ) (p : TrustPoint) → verifier_named v reference ≡ Some (Point p) → ⊥
not_session None reference p e = absurd (cc)
not_session (Some u) reference p e = go (bytes_eq u.reference reference) e
  where
    go : (b : Bool) → cond b (Some (Verifier u)) None ≡ Some (Point p) → ⊥
    go true e' = let i : Verifier u ≡ Point p = cc in absurd (cc)
    go false e' = absurd (cc)

-- a point that is the issuer is one of the trust's, with the certificate's authority reference
point_found : (t : Trust) (s : SessionValue) (c : CertBody) (p : TrustPoint) → issuer_of t s c ≡ Some (Point p) → IsAmong p (points t) × (c.authority ≡ p.reference)
point_found t s c p e = go (bytes_eq t.newest.reference c.authority) refl e
  where
    of_older : (o : Option TrustPoint) → or_else (older_named o c.authority) (verifier_named s.verifier c.authority) ≡ Some (Point p) → IsAmong p (older_points o) × (c.authority ≡ p.reference)
    of_older None e' = absurd (not_session s.verifier c.authority p e')
    of_older (Some q) e' = pick (bytes_eq q.reference c.authority) refl e'
      where
        pick : (b : Bool) → bytes_eq q.reference c.authority ≡ b → or_else (cond b (Some (Point q)) None) (verifier_named s.verifier c.authority) ≡ Some (Point p) → IsAmong p (older_points (Some q)) × (c.authority ≡ p.reference)
        pick true is e'' = let same = point_is p q e'' in (inl same, sym (bytes_eq-true q.reference c.authority is) ∙ ap (λ (x : TrustPoint). x.reference) (sym same))
        pick false is e'' = absurd (not_session s.verifier c.authority p e'')

    go : (b : Bool) → bytes_eq t.newest.reference c.authority ≡ b → cond b (Some (Point t.newest)) (or_else (older_named t.older c.authority) (verifier_named s.verifier c.authority)) ≡ Some (Point p) → IsAmong p (points t) × (c.authority ≡ p.reference)
    go true is e' = let same = point_is p t.newest e' in (inl same, sym (bytes_eq-true t.newest.reference c.authority is) ∙ ap (λ (x : TrustPoint). x.reference) (sym same))
    go false is e' = let r = of_older t.older e' in (inr r.0, r.1)

-- a verifier that is the issuer: no point has the reference, and it is the session's
pub record BySession (t : Trust) (s : SessionValue) (c : CertBody) (u : Verified) : Type 0 where
  pub none : IsNone (points t) c.authority
  pub there : s.verifier ≡ Some u
  pub reference : u.reference ≡ c.authority

pub session_found : (t : Trust) (s : SessionValue) (c : CertBody) (u : Verified) → issuer_of t s c ≡ Some (Verifier u) → BySession t s c u
session_found t s c u e = go (bytes_eq t.newest.reference c.authority) refl e
  where
    of_session : (v : Option Verified) → s.verifier ≡ v → verifier_named v c.authority ≡ Some (Verifier u) → (s.verifier ≡ Some u) × (u.reference ≡ c.authority)
    of_session None is e' = absurd (cc)
    of_session (Some x) is e' = pick (bytes_eq x.reference c.authority) refl e'
      where
        pick : (b : Bool) → bytes_eq x.reference c.authority ≡ b → cond b (Some (Verifier x)) None ≡ Some (Verifier u) → (s.verifier ≡ Some u) × (u.reference ≡ c.authority)
        pick true at e'' =
            let i : Verifier x ≡ Verifier u = cc in
            let same : x ≡ u = cc in
            (is ∙ ap Some same, ap (λ (y : Verified). y.reference) (sym same) ∙ bytes_eq-true x.reference c.authority at)
        pick false at e'' = absurd (cc)

    of_older : (o : Option TrustPoint) → or_else (older_named o c.authority) (verifier_named s.verifier c.authority) ≡ Some (Verifier u) → IsNone (older_points o) c.authority × ((s.verifier ≡ Some u) × (u.reference ≡ c.authority))
    of_older None e' = (tt, of_session s.verifier refl e')
    of_older (Some q) e' = pick (bytes_eq q.reference c.authority) refl e'
      where
        pick : (b : Bool) → bytes_eq q.reference c.authority ≡ b → or_else (cond b (Some (Point q)) None) (verifier_named s.verifier c.authority) ≡ Some (Verifier u) → IsNone (older_points (Some q)) c.authority × ((s.verifier ≡ Some u) × (u.reference ≡ c.authority))
        pick true is e'' = let i : Point q ≡ Verifier u = cc in absurd (cc)
        pick false is e'' = ((differ q.reference c.authority is, tt), of_session s.verifier refl e'')

    go : (b : Bool) → bytes_eq t.newest.reference c.authority ≡ b → cond b (Some (Point t.newest)) (or_else (older_named t.older c.authority) (verifier_named s.verifier c.authority)) ≡ Some (Verifier u) → BySession t s c u
    go true is e' = let i : Point t.newest ≡ Verifier u = cc in absurd (cc)
    go false is e' = let r = of_older t.older e' in record { none = (differ t.newest.reference c.authority is, r.0); there = r.1.0; reference = r.1.1 }

module _ (says : Says) where
  -- what an accepted verifier's certificate is
  pub record VerifierBack (t : Trust) (v : Cert) (t' : Trust) (s' : SessionValue) : Type 0 where
    pub point : TrustPoint
    pub among : IsAmong point (points t)
    pub good : IsVerifier says point t.day v
    pub trust : t' ≡ trust_after OfVerifier t no_session v.body (Point point)
    pub session : s' ≡ session_after OfVerifier no_session v.body (Point point)

  verifier_back : (t : Trust) (v : Cert) (t' : Trust) (s' : SessionValue) → Step t no_session v.body (verdict_on says t no_session v) t' s' → sort_of v.body.template.role ≡ OfVerifier → VerifierBack t v t' s'
  verifier_back t v t' s' st sort = go st.issuer refl (subst (λ (p : Sort × Option Issuer). first_refusal p.0 t v.body p.1 ≡ None) (λ j. (sort j, st.named j)) st.allowed)
    where
      go : (i : Issuer) → st.issuer ≡ i → first_refusal OfVerifier t v.body (Some st.issuer) ≡ None → VerifierBack t v t' s'
      go (Verifier u) who refused =
          let at = sym (behind_kind v.body.template.kind u.template.kind refusal.TypeDiffers _) ∙ subst (λ (i : Issuer). first_refusal OfVerifier t v.body (Some i) ≡ None) who refused in
          absurd (cc)
      go (Point p) who refused =
          let at = sym (behind_kind v.body.template.kind p.template.kind refusal.TypeDiffers _) ∙ subst (λ (i : Issuer). first_refusal OfVerifier t v.body (Some i) ≡ None) who refused in
          let is : issuer_of t no_session v.body ≡ Some (Point p) = st.named ∙ ap Some who in
          let found = point_found t no_session v.body p is in
          let key = found_none (not (is_empty v.body.key.domain) || not (same_algorithm v.body.key.algorithm p.key.algorithm)) _ _ at in
          let parts = either_false (not (is_empty v.body.key.domain)) (not (same_algorithm v.body.key.algorithm p.key.algorithm)) key.0 in
          let old = found_none (nat_lt p.until t.day) _ _ key.1 in
          let own = found_none (nat_lt v.body.until t.day) _ _ old.1 in
          record {
            point = p;
            among = found.0;
            good = record {
              role = role_verifier v.body.template.role sort;
              issuer = found.1;
              alive = (not_before p.until t.day old.0, not_before v.body.until t.day own.0);
              key = (same_parts v.body.key.algorithm p.key.algorithm parts.1, empty_is v.body.key.domain parts.0);
              said = sym (ap (λ (o : Option Issuer). verdict_under says o v) is) ∙ st.yes;
            };
            trust = st.trust ∙ (λ i. trust_after (sort i) t no_session v.body (who i));
            session = st.session ∙ (λ i. session_after (sort i) no_session v.body (who i));
          }

  terminal_back : (t : Trust) (v w : Cert) (p : TrustPoint) (t' : Trust) (s' : SessionValue) → (let s : SessionValue = session_after OfVerifier no_session v.body (Point p) in Step t s w.body (verdict_on says t s w) t' s') → sort_of w.body.template.role ≡ OfTerminal → IsNone (points t) w.body.authority × IsTerminal says p v t.day w
  terminal_back t v w p t' s' st sort = go st.issuer refl (subst (λ (x : Sort × Option Issuer). first_refusal x.0 t w.body x.1 ≡ None) (λ j. (sort j, st.named j)) st.allowed)
    where
      go : (i : Issuer) → st.issuer ≡ i → first_refusal OfTerminal t w.body (Some st.issuer) ≡ None → IsNone (points t) w.body.authority × IsTerminal says p v t.day w
      go (Point q) who refused =
          let at = sym (behind_kind w.body.template.kind q.template.kind refusal.TypeDiffers _) ∙ subst (λ (i : Issuer). first_refusal OfTerminal t w.body (Some i) ≡ None) who refused in
          absurd (cc)
      go (Verifier u) who refused =
          let s : SessionValue = session_after OfVerifier no_session v.body (Point p) in
          let is : issuer_of t s w.body ≡ Some (Verifier u) = st.named ∙ ap Some who in
          let found = session_found t s w.body u is in
          let same : verified v.body (Point p) ≡ u = let e : Some (verified v.body (Point p)) ≡ Some u = found.there in cc in
          let at = sym (behind_kind w.body.template.kind v.body.template.kind refusal.TypeDiffers _) ∙ subst (λ (i : Issuer). first_refusal OfTerminal t w.body (Some i) ≡ None) (who ∙ ap Verifier (sym same)) refused in
          let key = found_none (not (is_empty w.body.key.domain) || not (same_algorithm w.body.key.algorithm v.body.key.algorithm)) _ _ at in
          let parts = either_false (not (is_empty w.body.key.domain)) (not (same_algorithm w.body.key.algorithm v.body.key.algorithm)) key.0 in
          let old = found_none (nat_lt v.body.until t.day) _ _ key.1 in
          let own = found_none (nat_lt w.body.until t.day) _ _ old.1 in (
            found.none,
            record {
              role = role_terminal w.body.template.role sort;
              issuer = sym (ap (λ (x : Verified). x.reference) same ∙ found.reference);
              alive = (not_before v.body.until t.day old.0, not_before w.body.until t.day own.0);
              key = (same_parts w.body.key.algorithm v.body.key.algorithm parts.1, empty_is w.body.key.domain parts.0);
              said = sym (ap (λ (o : Option Issuer). verdict_under says o w) (is ∙ ap (λ (x : Verified). Some (Verifier x)) (sym same))) ∙ st.yes;
            },
          )

  -- the converse: links, a verifier's and a terminal's certificate that are accepted in turn are a good chain
  pub accepted_is_good : (t : Trust) (links : List Cert) (v w : Cert) (t' : Trust) (s' : SessionValue) → AllLinks links → sort_of v.body.template.role ≡ OfVerifier → sort_of w.body.template.role ≡ OfTerminal → Accepts says t no_session (links ++ v ∷ w ∷ []) t' s' → GoodChain says t links v w
  accepted_is_good t [] v w t' s' all sv sw a =
      let one = verifier_back t v a.0 a.1 a.2 sv in
      let mid = trust_after OfVerifier t no_session v.body (Point one.point) in
      let st = subst (λ (x : Trust × SessionValue). Step x.0 x.1 w.body (verdict_on says x.0 x.1 w) a.3.0 a.3.1) (λ i. (one.trust i, one.session i)) a.3.2 in
      let two = terminal_back mid v w one.point a.3.0 a.3.1 st sw in
      record { linked_up = tt; point = one.point; among = one.among; verifier = one.good; terminal = two.1; own = two.0 }
  accepted_is_good t (l ∷ ls) v w t' s' all sv sw a =
      let one = link_back says t l a.0 a.1 a.2 all.0 in
      let rest = subst (λ (x : Trust × SessionValue). Accepts says x.0 x.1 (ls ++ v ∷ w ∷ []) t' s') (λ i. (one.1 i, one.2 i)) a.3 in
      let g = accepted_is_good (trust_after Link t no_session l.body (Point t.newest)) ls v w t' s' all.1 sv sw rest in
      record { linked_up = (one.0, g.linked_up); point = g.point; among = g.among; verifier = g.verifier; terminal = g.terminal; own = g.own }

-- ---- both ways

are_links : (says : Says) (p : TrustPoint) (links : List Cert) → AreLinks says p links → AllLinks links
are_links says p [] h = tt
are_links says p (l ∷ ls) h = (ap sort_of h.0.role, are_links says (linked p l.body) ls h.1)

in_order : (says : Says) (t : Trust) (links : List Cert) (v w : Cert) → GoodChain says t links v w → AreInOrder links v w
in_order says t links v w g = record {
  are_links = are_links says t.newest links g.linked_up;
  verifier = ⊎_elim (λ (d : v.body.template.role ≡ Domestic). ap sort_of d) (λ (f : v.body.template.role ≡ Foreign). ap sort_of f) g.verifier.role;
  terminal = ap sort_of g.terminal.role;
}

pub good_or_accepted : (says : Says) (t : Trust) (links : List Cert) (v w : Cert) → IsTrust t → GoodChain says t links v w ↔ IsAccepted says t links v w
good_or_accepted says t links v w is = (
  (λ g. let a = good_chain_accepted says t links v w is g in record { roles = in_order says t links v w g; trust = a.0; session = a.1; steps = a.2 }),
  (λ a. accepted_is_good says t links v w a.trust a.session a.roles.are_links a.roles.verifier a.roles.terminal a.steps),
)
