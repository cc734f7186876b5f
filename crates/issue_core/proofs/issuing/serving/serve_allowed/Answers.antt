use Rattle.std.proofs.Common.{sym, ◌∙◌}
use Rattle.cvc_grammar.specs.RequestViews.{seen_request}
use Rattle.issue_core.proofs.IssuingDesk.Caused.{err_is, asked_as}
use Rattle.issue_core.proofs.IssuingDesk.Serving.{unverdicted, said_no, said_yes}
use Rattle.issue_core.proofs.issuing.serving.serve_allowed.Goals as goal

pub returns-in_err-rule : goal.returns-in_err-rule
returns-in_err-rule g c = unverdicted c.args.call.now (seen_request c.args.view.now) c.args.registration.now c.args.seen.now c.args.grant.now.signer.now c.args.grant.now.days _ _ c.in_err-rule.ensures.says c.in_err-rule.ensures.holds c.in_err-rule.ensures.signed _ _ _ _ (err_is _ _ c.from_residual.ensures.1) c.in_err-rule.ensures.cause

pub returns-in-Some : goal.returns-in-Some
returns-in-Some g c = said_no c.args.call.now (seen_request c.args.view.now) c.args.registration.now c.args.seen.now c.args.grant.now.signer.now c.args.grant.now.days _ _ c.in_ok-rule.ensures.says c.in_ok-rule.ensures.holds c.in_ok-rule.ensures.signed _ _ c.in-Some.rule (asked_as _ _ _ _ c.in-Some.is c.in_ok-rule.ensures.cause) (sym c.in-Some.is ∙ c.in_ok-rule.ensures.rule)

pub returns-in-None : goal.returns-in-None
returns-in-None g c = said_yes c.args.call.now (seen_request c.args.view.now) c.args.registration.now c.args.seen.now c.args.grant.now.signer.now c.args.grant.now.days _ _ c.in_ok-rule.ensures.says c.in_ok-rule.ensures.holds c.in_ok-rule.ensures.signed _ _ _ _ _ (asked_as _ _ _ _ c.in-None.is c.in_ok-rule.ensures.cause) (sym c.in-None.is ∙ c.in_ok-rule.ensures.rule) c.serve_granted.ensures
