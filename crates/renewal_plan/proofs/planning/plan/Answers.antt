use Rattle.std.proofs.Common.{◌≡◌, Some, None, ℕ, ◌+◌, ◌≤◌, Bool, true, false, cond, List, reverse, sym, ◌∙◌, subst, subst₂, arith, []}
use Rattle.std.proofs.Common.{◌⊎◌, inl, inr, ◌<◌, nat_le}
use Rattle.std.proofs.lemmas.Bool.Decides.{leb_tells}
use Rattle.renewal_plan.specs.Searching.{HasDays}
use Rattle.renewal_plan.specs.Renewals.{Renewal}
use Rattle.renewal_plan.proofs.Sweeping.{Swept, begun, bare_since, gone_on, stuck_here, renewed_here}
use Rattle.renewal_plan.proofs.planning.plan.Goals as goal
use Rattle.renewal_plan.proofs.planning.plan.Goals.{then-number-next+in-Some+in_ok-push, else-number-next}

-- a number's day
day_is : (b : Bool) (number day : ℕ) → cond b (Some number) None ≡ Some day → day ≡ number
day_is true number day e = cc (e)
day_is false number day e = absurd (cc (e))

next_is_later : (number next now : ℕ) → number ≤ next → (number ≡ next → ⊥) → now ≡ next → number + 1 ≤ now
next_is_later number next now le other same = go (leb_tells (number + 1) next)
  where
    go : ((nat_le (number + 1) next ≡ true) × (number + 1 ≤ next)) ⊎ ((nat_le (number + 1) next ≡ false) × (next < number + 1)) → number + 1 ≤ now
    go (inl t) = omega (arith, t.1, same)
    go (inr f) = absurd (other (omega (arith, f.1, le)))

pub loop-number-init : goal.loop-number-init
loop-number-init c =
    let need = c.args.need.now in
    let first = sym c.number-number.ensures.number in
    let next = sym c.bare_from-next.ensures in
    record {
      days = subst (HasDays c.in_ok-closed.closed) c.as_slice.ensures c.in_ok-closed.ensures;
      since = omega (arith, first);
      ahead = subst₂ (λ (a b : ℕ). a ≤ b) first next (bare_since need.first need.have);
      swept = subst (λ (l : List Renewal). Swept need c.number-number.result c.bare_from-next.result None (reverse l)) (sym c.new-planned.ensures) (subst₂ (λ (a b : ℕ). Swept need a b None (reverse [])) first next (begun need));
    }

pub returns-in_default : goal.returns-in_default
returns-in_default c =
    let v = c.loop-number.invariant in
    let last = c.number-number-end.ensures.number in
    let test = c.loop-number-test.true in
    stuck_here c.args.need.now c.loop-number.number c.loop-number.next c.unwrap-day.result c.loop-number.best c.best_by-best.result (reverse c.loop-number.planned) v.since (omega (arith, last, test)) (day_is _ c.loop-number.number c.unwrap-day.result (sym c.from_number.ensures ∙ c.unwrap-day.ensures)) c.best_by-best.ensures c.if-number-next.true (sym c.in_default.ensures) v.swept

pub loop-number-preserved : goal.loop-number-preserved
loop-number-preserved c =
    let v = c.loop-number.invariant in
    let need = c.args.need.now in
    let last = c.number-number-end.ensures.number in
    let test = c.loop-number-test.true in
    let on : c.unwrap-day.result ≡ c.loop-number.number = day_is _ c.loop-number.number c.unwrap-day.result (sym c.from_number.ensures ∙ c.unwrap-day.ensures) in
    let within : c.loop-number.number < need.last + 1 = omega (arith, last, test) in
    elim c.if-number-next.branch [
      | then-number-next+in-Some+in_ok-push w ↦
          let one = renewed_here need c.loop-number.number c.loop-number.next c.unwrap-day.result c.if-number-next.next c.loop-number.best c.best_by-best.result w.in-Some.renewal c.loop-number.planned c.if-number-next.planned v.since within on c.best_by-best.ensures w.if-number-next.true (sym w.reaching.ensures ∙ w.in-Some.is) (w.planned-is ∙ w.in_ok-push.ensures.pushed) (w.next-is ∙ w.day_after-next.ensures) v.swept in
          record { days = v.days; since = omega (arith, v.since); ahead = one.0; swept = one.1 }
      | else-number-next w ↦
          let other = w.if-number-next.false in
          let more = gone_on need c.loop-number.number c.loop-number.next c.unwrap-day.result c.loop-number.best c.best_by-best.result (reverse c.loop-number.planned) v.since within on c.best_by-best.ensures v.swept in
          let same = w.next-is in
          record {
            days = v.days;
            since = omega (arith, v.since);
            ahead = next_is_later c.loop-number.number c.loop-number.next c.if-number-next.next v.ahead other same;
            swept = subst₂ (λ (n : ℕ) (l : List Renewal). Swept need (c.loop-number.number + 1) n c.best_by-best.result (reverse l)) (sym same) (sym w.planned-is) more;
          }
    ]
