-- At most one chain is due.
use Rattle.std.proofs.Common.{◌≡◌, ℕ, ◌<◌, ◌≤◌, Bool, true, false, List, [], ◌∷◌, ◌++◌, Some, None, refl, sym, ap, ◌∙◌, subst}
use Rattle.std.specs.Prelude.{nat_lt}
use Rattle.std.specs.List.{All}
use Rattle.std.proofs.lemmas.Bool.{ltb-true, ltb-false}
use Rattle.std.proofs.lemmas.List.Elements.{All-head, All-tail}
use Rattle.keeper.specs.declared.rows.Row.{Row}
use Rattle.keeper.specs.declared.rows.Settled.{Settled}
use Rattle.terminal_desk.specs.Chain.{Climbs, Above, HasNone, chain_of}
use Rattle.terminal_desk.specs.Laws.{OneIsDue}
use Rattle.terminal_desk.proofs.Walking.{climbs_once}

either : (a b : ℕ) → (a < b → ⊥) → (b ≤ a → ⊥) → ⊥
either a b less more = by_test (nat_lt a b) refl
  where
    by_test : (t : Bool) → nat_lt a b ≡ t → ⊥
    by_test true e = less (ltb-true a b e)
    by_test false e = more (ltb-false a b e)

in_list : (P : Settled → Type 0) (front : List Settled) (row : Settled) (back : List Settled) → All P (front ++ (row ∷ back)) → P row
in_list P [] row back all = All-head P row back all
in_list P (o ∷ front) row back all = in_list P front row back (All-tail P o (front ++ (row ∷ back)) all)

module _ (cars : List (List ℕ)) (cas : List Row) where
  above_once : (own : Settled) (l m : List Settled) → Above cars cas own l → Above cars cas own m → l ≡ m
  above_once own [] m p q = absurd p
  above_once own (v ∷ l) [] p q = absurd q
  above_once own (v ∷ l) (w ∷ m) p q =
      let same : v ≡ w = cc (p.0, q.0) in
      let rest : l ≡ m = climbs_once cars cas w l m (subst (λ (s : Settled). Climbs cars cas s l) same p.1) q.1 in
      λ i. same i ∷ rest i

  abbrev Earlier : Settled → Settled → Type 0
  Earlier r o = r.from < o.from → HasNone cars cas o

  abbrev Later : Settled → Settled → Type 0
  Later r o = r.from ≤ o.from → HasNone cars cas o

  -- of two that have a chain the first is no due one, or the second is none
  not_both : (r s : Settled) (g d b : List Settled) (l m : List Settled) → b ≡ g ++ (s ∷ d) → Above cars cas r l → Above cars cas s m → All (Later r) b → Earlier s r → ⊥
  not_both r s g d b l m e p q later earlier = either s.from r.from (λ less. earlier less l p) (λ late. in_list (Later r) g s d (subst (λ (k : List Settled). All (Later r) k) e later) late m q)

  -- the list is split at one due row alone
  same_row : (f b g d : List Settled) (r s : Settled) (l m : List Settled) → f ++ (r ∷ b) ≡ g ++ (s ∷ d) → Above cars cas r l → Above cars cas s m → All (Earlier r) f → All (Later r) b → All (Earlier s) g → All (Later s) d → r ≡ s
  same_row [] b [] d r s l m e p q before_r after_r before_s after_s = cc
  same_row [] b (x ∷ g) d r s l m e p q before_r after_r before_s after_s =
      let first : x ≡ r = cc in
      let rest : b ≡ g ++ (s ∷ d) = cc in
      absurd (not_both r s g d b l m rest p q after_r (subst (λ (o : Settled). Earlier s o) first (All-head (Earlier s) x g before_s)))
  same_row (x ∷ f) b [] d r s l m e p q before_r after_r before_s after_s =
      let first : x ≡ s = cc in
      let rest : d ≡ f ++ (r ∷ b) = cc in
      absurd (not_both s r f b d m l rest q p after_s (subst (λ (o : Settled). Earlier r o) first (All-head (Earlier r) x f before_r)))
  same_row (x ∷ f) b (y ∷ g) d r s l m e p q before_r after_r before_s after_s =
      let rest : f ++ (r ∷ b) ≡ g ++ (s ∷ d) = cc in
      same_row f b g d r s l m rest p q (All-tail (Earlier r) x f before_r) after_r (All-tail (Earlier s) y g before_s) after_s

pub one_is_due : OneIsDue
one_is_due cars own cas None None p q = refl
one_is_due cars own cas (Some a) None p q =
    let all : All (HasNone cars cas) (p.due.front ++ (p.row ∷ p.due.back)) = subst (λ (l : List Settled). All (HasNone cars cas) l) p.due.split q in
    absurd (in_list (HasNone cars cas) p.due.front p.row p.due.back all p.above p.due.climbs)
one_is_due cars own cas None (Some b) p q =
    let all : All (HasNone cars cas) (q.due.front ++ (q.row ∷ q.due.back)) = subst (λ (l : List Settled). All (HasNone cars cas) l) q.due.split p in
    absurd (in_list (HasNone cars cas) q.due.front q.row q.due.back all q.above q.due.climbs)
one_is_due cars own cas (Some a) (Some b) p q =
    let row : p.row ≡ q.row = same_row cars cas p.due.front p.due.back q.due.front q.due.back p.row q.row p.above q.above (sym p.due.split ∙ q.due.split) p.due.climbs q.due.climbs p.due.earlier p.due.later q.due.earlier q.due.later in
    let above : p.above ≡ q.above = above_once cars cas q.row p.above q.above (subst (λ (s : Settled). Above cars cas s p.above) row p.due.climbs) q.due.climbs in
    ap Some (p.chain_is ∙ (λ i. chain_of (above i) (row i)) ∙ sym q.chain_is)
