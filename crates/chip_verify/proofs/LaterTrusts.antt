-- Steps lead to later trusts, and later trusts compose.
use Rattle.std.proofs.Common.{◌≡◌, ◌⊎◌, inl, inr, ◌<◌, List, [], ◌∷◌, Option, Some, None, Bool, refl, sym, subst, arith}
use Rattle.std.specs.Prelude.{IfSome}
use Rattle.cvc_grammar.specs.declared.certificate.CertBody.{CertBody}
use Rattle.chip_verify.specs.declared.trust_point.TrustPoint.{TrustPoint}
use Rattle.chip_verify.specs.Trust.{Trust, points, older_points, ComesBefore, IsTrust}
use Rattle.chip_verify.specs.Session.{SessionValue}
use Rattle.chip_verify.specs.Later.{Later, IsAmong, IsAfterAll, KeptOrNew}
use Rattle.chip_verify.specs.Refusals.{Sort, Link, OfVerifier, OfTerminal, sort_of}
use Rattle.chip_verify.specs.Step.{trust_after, Step}
use Rattle.chip_verify.proofs.Links.{link_facts}

kept_all : (old ps : List TrustPoint) → ((p : TrustPoint) → IsAmong p ps → IsAmong p old) → KeptOrNew old ps
kept_all old [] f = tt
kept_all old (p ∷ ps) f = (inl (f p (inl refl)), kept_all old ps (λ q h. f q (inr h)))

kept_at : (old ps : List TrustPoint) (p : TrustPoint) → KeptOrNew old ps → IsAmong p ps → IsAmong p old ⊎ IsAfterAll p old
kept_at old [] p k a = absurd a
kept_at old (q ∷ ps) p k (inl same) = subst (λ (x : TrustPoint). IsAmong x old ⊎ IsAfterAll x old) (sym same) k.0
kept_at old (q ∷ ps) p k (inr rest) = kept_at old ps p k.1 rest

after_points : (t : Trust) (p : TrustPoint) → IsTrust t → t.newest.from < p.from → IsAfterAll p (points t)
after_points t p is lt = (lt, go t.older is.older)
  where
    go : (o : Option TrustPoint) → IfSome o (λ q. ComesBefore q t.newest) → IsAfterAll p (older_points o)
    go None h = tt
    go (Some q) h = (omega (arith, h.from, lt), tt)

pub later_same : (t : Trust) → Later t t
later_same t = record { day = omega arith; newest = omega arith; points = kept_all (points t) (points t) (λ p h. h) }

compose_points : (t u : Trust) (ps : List TrustPoint) → IsTrust t → Later t u → KeptOrNew (points u) ps → KeptOrNew (points t) ps
compose_points t u [] is tu k = tt
compose_points t u (p ∷ ps) is tu k = (go k.0, compose_points t u ps is tu k.1)
  where
    go : (IsAmong p (points u) ⊎ IsAfterAll p (points u)) → IsAmong p (points t) ⊎ IsAfterAll p (points t)
    go (inl among) = kept_at (points t) (points u) p tu.points among
    go (inr new) = inr (after_points t p is (omega (arith, tu.newest, new.0)))

pub later_then : (t u v : Trust) → IsTrust t → Later t u → Later u v → Later t v
later_then t u v is tu uv = record {
  day = omega (arith, tu.day, uv.day);
  newest = omega (arith, tu.newest, uv.newest);
  points = compose_points t u (points v) is tu uv.points;
}

pub step_later : (t : Trust) (s : SessionValue) (c : CertBody) (verdict : Bool) (t' : Trust) (s' : SessionValue) → IsTrust t → Step t s c verdict t' s' → Later t t'
step_later t s c verdict t' s' is st = subst (Later t) (sym st.trust) (go (sort_of c.template.role) refl)
  where
    go : (so : Sort) → sort_of c.template.role ≡ so → Later t (trust_after so t s c st.issuer)
    go Link sort =
        let f = link_facts t s c st.issuer st.named st.allowed sort in
        record {
          day = omega arith;
          newest = omega (arith, f.later);
          points = (inr (after_points t (trust_after Link t s c st.issuer).newest is f.later), (inl (inl refl), tt));
        }
    go OfVerifier sort = record { day = omega arith; newest = omega arith; points = kept_all (points t) (points t) (λ p h. h) }
    go OfTerminal sort = record { day = grind arith; newest = omega arith; points = kept_all (points t) (points t) (λ p h. h) }
