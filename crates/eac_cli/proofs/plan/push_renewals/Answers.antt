use Rattle.std.proofs.Common.{◌+◌, ◌++◌, ◌∷◌, [], take, sym, ap, ◌∙◌, arith, append-nil}
use Rattle.std.proofs.lemmas.List.{take_more, take_all}
use Rattle.std.specs.Prelude.{flat_map}
use Rattle.eac_cli.specs.PlanText.{renewal_line}
use Rattle.eac_cli.proofs.PlanTexts.{line_pushed}
use Rattle.eac_cli.proofs.plan.push_renewals.Goals as goal

pub loop-renewal-init : goal.loop-renewal-init
loop-renewal-init c = sym (append-nil c.args.out.now)

pub loop-renewal-preserved : goal.loop-renewal-preserved
loop-renewal-preserved c =
    let items = c.args.renewals.now in
    let i = c.loop-renewal.renewal-index in
    let item = c.renewal-item.result in
    line_pushed renewal_line (take i items) (take (i + 1) items) item c.args.out.now c.loop-renewal.out c.push_renewal.new.out (take_more items i item (omega arith) ∙ ap (λ x. take i items ++ x ∷ []) (sym c.renewal-item.is)) c.loop-renewal.invariant c.in_ok-push_renewal.ensures

pub returns : goal.returns
returns c =
    let items = c.args.renewals.now in
    c.loop-renewal.invariant ∙ ap (λ l. c.args.out.now ++ flat_map renewal_line l) (take_all c.loop-renewal.renewal-index items (omega arith))
