-- Walks, one step after another.
use Rattle.std.proofs.Common.{◌≡◌, ℕ, zero, suc, ◌+◌, ◌<◌, Bool, true, false, List, [], ◌∷◌, length, Option, Some, None, refl, sym, ap, ◌∙◌, subst, inl, inr, arith, set, length-set}
use Rattle.std.specs.Prelude.{slice_get, IfNone}
use Rattle.keeper.specs.declared.rows.Row.{Row}
use Rattle.keeper.specs.declared.rows.Settled.{Settled}
use Rattle.terminal_desk.specs.Chain.{is_trusted, is_verifier, is_root, issuer_of, Climbs, Above, HasNone}
use Rattle.terminal_desk.specs.Walks.{certificate_at, IsMet, LeadsNowhere, AreLost, IsWalked, StandsUnder}
use Rattle.terminal_desk.proofs.Marks.{unmet-le-length, unmet-set, met_so_far}

pub if_none : {A : Type 0} (o : Option A) (P : Type 0) → P → IfNone o P
if_none None P p = p
if_none (Some x) P p = tt

pub stands_within : (cas : List Row) (place : ℕ) (s : Settled) → certificate_at cas place ≡ Some s → place < length cas
stands_within [] place s at = absurd (cc)
stands_within (row ∷ cas) zero s at = omega arith
stands_within (row ∷ cas) (suc place) s at = let less = stands_within cas place s at in omega arith

module _ (cars : List (List ℕ)) (cas : List Row) where
  -- one list stands above each certificate
  pub climbs_once : (top : Settled) (l m : List Settled) → Climbs cars cas top l → Climbs cars cas top m → l ≡ m
  climbs_once top [] [] p q = refl
  climbs_once top [] (b ∷ m) p q = absurd (let h : true ≡ false = sym p ∙ q.0 in cc)
  climbs_once top (a ∷ l) [] p q = absurd (let h : true ≡ false = sym q ∙ p.0 in cc)
  climbs_once top (a ∷ l) (b ∷ m) p q =
      let same : a ≡ b = cc (p.1, q.1) in
      let rest : l ≡ m = climbs_once b l m (subst (λ (s : Settled). Climbs cars cas s l) same p.2) q.2 in
      λ i. same i ∷ rest i

  -- what stands above where no car is the issuer begins with the root that is
  pub goes_on : (top next : Settled) (l : List Settled) → is_trusted cars top.issuer ≡ false → issuer_of is_root cas top ≡ Some next → Climbs cars cas top l → (more : List Settled) × Climbs cars cas next more × (length l ≡ suc (length more))
  goes_on top next [] untrusted e p = absurd (let h : true ≡ false = sym p ∙ untrusted in cc)
  goes_on top next (a ∷ more) untrusted e p =
      let same : a ≡ next = cc (p.1, e) in
      (more, subst (λ (s : Settled). Climbs cars cas s more) same p.2, refl)

  pub ends_here : (top : Settled) → is_trusted cars top.issuer ≡ false → issuer_of is_root cas top ≡ None → LeadsNowhere cars cas top
  ends_here top untrusted e [] p = let h : true ≡ false = sym p ∙ untrusted in cc
  ends_here top untrusted e (a ∷ more) p = cc (p.1, e)

  module _ (own : Settled) where
    pub has_none : issuer_of is_verifier cas own ≡ None → HasNone cars cas own
    has_none e [] p = p
    has_none e (v ∷ more) p = cc (p.0, e)

    pub begins : (met : List Bool) (place : ℕ) (v : Settled) → issuer_of is_verifier cas own ≡ Some v → certificate_at cas place ≡ Some v → AreLost cars cas met → length met ≡ length cas → IsWalked cars cas own met place v 1
    begins met place v e here lost all = record {
      here = here;
      up = λ more p. (v ∷ more, (e, p), omega arith);
      down = down;
      nearer = λ p is s at l climbs. absurd (lost p is s at l climbs);
      all = all;
      counted = let most = unmet-le-length met in omega arith;
    }
      where
        down : (above : List Settled) → Above cars cas own above → (more : List Settled) × Climbs cars cas v more
        down [] p = absurd p
        down (a ∷ more) p = let same : a ≡ v = cc (p.0, e) in (more, subst (λ (s : Settled). Climbs cars cas s more) same p.1)

    module _ (met : List Bool) (place : ℕ) (top : Settled) (steps : ℕ) (is : IsWalked cars cas own met place top steps) where
      -- at an authority that was met before, nothing stands above
      pub met_again : IsMet met place → LeadsNowhere cars cas top
      met_again again more p =
          let nearer = is.nearer place again top is.here more p in
          let same : length more ≡ length nearer.0 = ap length (climbs_once top more nearer.0 p nearer.1) in
          let less = nearer.2 in
          omega arith

      pub found : is_trusted cars top.issuer ≡ true → StandsUnder cars cas own (Some steps)
      found trusted =
          let up = is.up [] trusted in
          let same : length up.0 ≡ steps = let e = up.2 in omega arith in
          (up.0, up.1, same)

      pub none_above : LeadsNowhere cars cas top → HasNone cars cas own
      none_above nowhere above p = let down = is.down above p in nowhere down.0 down.1

      pub all_lost : LeadsNowhere cars cas top → AreLost cars cas (set met place true)
      all_lost nowhere p marked s at l climbs = elim (met_so_far met place p marked) [
        | (inl e) ↦
            let same : s ≡ top = cc (at, is.here, ap (certificate_at cas) e) in
            nowhere l (subst (λ (t : Settled). Climbs cars cas t l) same climbs)
        | (inr before) ↦ let nearer = is.nearer p before s at l climbs in nowhere nearer.0 nearer.1
      ]

      pub goes_up : (next : Settled) (above : ℕ) → slice_get met place ≡ Some false → is_trusted cars top.issuer ≡ false → issuer_of is_root cas top ≡ Some next → certificate_at cas above ≡ Some next → IsWalked cars cas own (set met place true) above next (steps + 1)
      goes_up next above new untrusted e at = record {
        here = at;
        up = λ more p. let up = is.up (next ∷ more) (untrusted, e, p) in (up.0, up.1, let same = up.2 in omega arith);
        down = λ whole p. let down = is.down whole p in let on = goes_on top next down.0 untrusted e down.1 in (on.0, on.1);
        nearer = nearer;
        all = length-set met place true ∙ is.all;
        counted =
            let less = unmet-set met place new in
            let same = length-set met place true in
            let before = is.counted in
            omega arith;
      }
        where
          from : (l : List Settled) → Climbs cars cas top l → (more : List Settled) × Climbs cars cas next more × (length more < length l)
          from l climbs = let on = goes_on top next l untrusted e climbs in (on.0, on.1, let longer = on.2 in omega arith)

          nearer : (p : ℕ) → IsMet (set met place true) p → (s : Settled) → certificate_at cas p ≡ Some s → (l : List Settled) → Climbs cars cas s l → (more : List Settled) × Climbs cars cas next more × (length more < length l)
          nearer p marked s there l climbs = elim (met_so_far met place p marked) [
            | (inl e) ↦
                let same : s ≡ top = cc (there, is.here, ap (certificate_at cas) e) in
                from l (subst (λ (t : Settled). Climbs cars cas t l) same climbs)
            | (inr before) ↦
                let first = is.nearer p before s there l climbs in
                let second = from first.0 first.1 in
                (second.0, second.1, let a = first.2 in let b = second.2 in omega arith)
          ]
