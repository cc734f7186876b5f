use Rattle.std.proofs.Common.{ℕ, List, ◌++◌, ap, ◌∙◌}
use Rattle.cv_dates.specs.Calendar.{day_text}
use Rattle.eac_cli.proofs.PlanTexts.{four_pushed}
use Rattle.eac_cli.proofs.plan.push_renewal.Goals as goal

pub returns : goal.returns
returns c =
    let from = day_text c.args.renewal.now.0 in
    let until = day_text c.args.renewal.now.1 in
    four_pushed c.push_all-4.result c.args.out.now _ _ _ _ from _ until _ (c.in_ok-push_all.ensures.pushed ∙ ap (λ (l : List ℕ). c.args.out.now ++ l) c.day_text.ensures.text) (c.in_ok-push_all-2.ensures.pushed) (c.in_ok-push_all-3.ensures.pushed ∙ ap (λ (l : List ℕ). c.push_all-2.new.self ++ l) c.day_text-2.ensures.text) c.push_all-4.ensures.pushed
