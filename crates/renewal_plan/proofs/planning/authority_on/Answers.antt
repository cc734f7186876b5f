use Rattle.std.proofs.Common.{◌≡◌, ◌+◌, ◌-◌, ◌<◌, ◌∷◌, length, drop, sym, ap, ◌∙◌, arith}
use Rattle.std.proofs.lemmas.List.{drop_more}
use Rattle.renewal_plan.specs.Renewals.{authority_on, begun_last}
use Rattle.renewal_plan.proofs.planning.authority_on.Goals as goal

pub loop-at-preserved : goal.loop-at-preserved
loop-at-preserved c =
    let day = c.args.day in
    let spans = c.args.spans.now in
    let at = c.loop-at.at in
    let span = c.index-spans-at.result in
    let back : at - 1 + 1 ≡ at = omega arith in
    let below : at - 1 < length spans = omega (arith, c.loop-at.invariant.within) in
    let cut : drop (at - 1) spans ≡ span ∷ drop at spans = drop_more spans (at - 1) span below ∙ (λ i. sym c.index-spans-at.is i ∷ drop (back i) spans) in
    record {
      within = omega (arith, c.loop-at.invariant.within);
      best = c.begun_last-best.ensures ∙ ap (begun_last day span) c.loop-at.invariant.best ∙ ap (authority_on day) (sym cut);
    }
