-- There is one best plan.
use Rattle.std.proofs.Common.{◌≡◌, inl, inr, List, [], ◌∷◌, length, refl, sym, subst, arith}
use Rattle.renewal_plan.specs.declared.need.Need.{Need}
use Rattle.renewal_plan.specs.Renewals.{Renewal, IsRenewal}
use Rattle.renewal_plan.specs.Plans.{IsPlan, IsNoLater, IsLatest, AreLatest, OnePlan, OneAnswer}

-- two renewals of which neither is later are one
as_late : (a b : Renewal) → IsNoLater a b → IsNoLater b a → a ≡ b
as_late a b (inl x) (inl y) = absurd (omega (arith, x, y))
as_late a b (inl x) (inr y) = let e = y.0 in absurd (omega (arith, x, e))
as_late a b (inr x) (inl y) = let e = x.0 in absurd (omega (arith, y, e))
as_late a b (inr x) (inr y) = let day : a.0 ≡ b.0 = omega (arith, x.1, y.1) in λ i. (day i, x.0 i)

same_plan : (need : Need) (a b : List Renewal) → length a ≡ length b → IsPlan need a → IsPlan need b → AreLatest need a → AreLatest need b → a ≡ b
same_plan need [] [] same is_a is_b late_a late_b = refl
same_plan need [] (s ∷ b) same is_a is_b late_a late_b = absurd (omega (arith, same))
same_plan need (r ∷ a) [] same is_a is_b late_a late_b = absurd (omega (arith, same))
same_plan need (r ∷ a) (s ∷ b) same is_a is_b late_a late_b =
    let rest : a ≡ b = same_plan need a b (omega (arith, same)) is_a.1 is_b.1 late_a.1 late_b.1 in
    let renewal : IsRenewal need a s = subst (λ (l : List Renewal). IsRenewal need l s) (sym rest) is_b.0 in
    let late : IsLatest need a s = subst (λ (l : List Renewal). IsLatest need l s) (sym rest) late_b.0 in
    let first : r ≡ s = as_late r s (late.latest r is_a.0 late_a.0.joined) (late_a.0.latest s renewal late.joined) in
    λ i. first i ∷ rest i

pub one_plan : OnePlan
one_plan need a b best_a best_b =
    let less = best_a.fewest b best_b.is_plan best_b.covers in
    let more = best_b.fewest a best_a.is_plan best_a.covers in
    same_plan need a b (omega (arith, less, more)) best_a.is_plan best_b.is_plan best_a.latest best_b.latest

pub one_answer : OneAnswer
one_answer need day plan bare is covers = bare.never plan is (λ d first le. let until = bare.until in covers d first (omega (arith, le, until)))
