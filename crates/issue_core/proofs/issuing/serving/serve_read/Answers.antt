use Rattle.cvc_grammar.specs.RequestViews.{seen_request}
use Rattle.issue_core.proofs.IssuingDesk.Caused.{err_is}
use Rattle.issue_core.proofs.IssuingDesk.Serving.{unlooked, kept_again, new_goes}
use Rattle.issue_core.proofs.issuing.serving.serve_read.Goals as goal

pub returns-in_err-row : goal.returns-in_err-row
returns-in_err-row g c = unlooked c.args.call.now (seen_request c.args.view.now) _ _ _ _ _ _ (err_is _ _ c.from_residual.ensures.1) c.in_err-row.ensures.cause c.in_err-row.ensures.told

pub returns-in-Some : goal.returns-in-Some
returns-in-Some g c = kept_again c.args.call.now (seen_request c.args.view.now) _ _ _ _ c.in_ok-row.field-0 c.in-Some.row c.answer_kept.result c.in-Some.is c.answer_kept.ensures c.in_ok-row.ensures.cause c.in_ok-row.ensures.asked c.in_ok-row.ensures.told

pub returns-in-None : goal.returns-in-None
returns-in-None g c = new_goes c.args.call.now (seen_request c.args.view.now) _ _ _ _ _ _ _ _ c.in_ok-row.field-0 _ c.in-None.is c.in_ok-row.ensures.cause c.in_ok-row.ensures.told c.serve_new.ensures
