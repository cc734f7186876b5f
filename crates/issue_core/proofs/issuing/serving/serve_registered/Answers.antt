use Rattle.cvc_grammar.specs.RequestViews.{seen_request}
use Rattle.issue_core.proofs.IssuingDesk.Caused.{err_is}
use Rattle.issue_core.proofs.IssuingDesk.Serving.{unseen, seen_no, seen_yes}
use Rattle.issue_core.proofs.issuing.serving.serve_registered.Goals as goal

pub returns-in_err-seen : goal.returns-in_err-seen
returns-in_err-seen g c = unseen c.args.call.now (seen_request c.args.view.now) c.args.registration.now _ _ _ _ _ _ (err_is _ _ c.from_residual.ensures.1) c.in_err-seen.ensures.cause c.in_err-seen.ensures.told

pub returns-in-Err : goal.returns-in-Err
returns-in-Err g c = seen_no c.args.call.now (seen_request c.args.view.now) c.args.registration.now c.in_ok-seen.seen c.in_ok-seen.ensures.asked _ _ _ _ c.in-Err.rule c.in_ok-seen.ensures.cause c.in_ok-seen.ensures.told c.in-Err.ensures

pub returns : goal.returns
returns g c = seen_yes c.args.call.now (seen_request c.args.view.now) c.args.registration.now c.in_ok-seen.seen c.in_ok-seen.ensures.asked _ _ _ _ _ _ _ _ c.in-Ok.grant.signer.now c.in-Ok.grant.days _ c.in_ok-seen.ensures.cause c.in_ok-seen.ensures.told c.in-Ok.ensures c.serve_allowed.ensures
