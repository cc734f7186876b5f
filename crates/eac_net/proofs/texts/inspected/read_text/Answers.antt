use Rattle.std.proofs.Common.{◌≡◌, ◌++◌, ℕ, List, sym, ap, ◌∙◌, append_assoc}
use Rattle.std.specs.Prelude.{codes}
use Rattle.std.specs.Fmt.{decimal}
use Rattle.cv_dates.specs.Calendar.{day_text}
use Rattle.chip_verify.specs.Trust.{Trust}
use Rattle.eac_net.specs.Inspected.{points_text}
use Rattle.eac_net.proofs.texts.inspected.read_text.Goals as goal

pub returns : goal.returns
returns c =
    let points = points_text c.args.state.now.older c.args.state.now.newest.reference in
    let before = codes "day " ++ day_text c.args.state.now.day ++ codes " points " ++ points in
    let today : c.day_text.result ≡ day_text c.args.state.now.day = c.day_text.ensures.text ∙ ap (λ (t : Trust). day_text t.day) c.state.view_is in
    let day : c.in_ok-text.text ≡ codes "day " ++ day_text c.args.state.now.day = c.in_ok-text.ensures ∙ ap (λ (l : List ℕ). codes "day " ++ l) today in
    let word : c.push_all.new.self ≡ codes "day " ++ day_text c.args.state.now.day ++ codes " points " = c.in_ok-push_all.ensures.pushed ∙ ap (λ (l : List ℕ). l ++ codes " points ") day in
    let there : c.push_points.new.text ≡ before = c.in_ok-push_points.ensures ∙ ap (λ (l : List ℕ). l ++ points) word in
    let number : c.as_slice.result.now ≡ codes " generation " ++ decimal c.args.generation = cc (c.as_slice.ensures, c.in_ok-number.ensures) in
    c.in_ok-push_all-2.ensures.pushed ∙ (λ j. there j ++ number j) ∙ sym (append_assoc before (codes " generation ") (decimal c.args.generation))
