use Rattle.std.proofs.Common.{None, refl}
use Rattle.cvc_grammar.specs.RequestViews.{seen_request}
use Rattle.issue_core.proofs.IssuingDesk.Serving.{unknown, suspended, registered_goes}
use Rattle.issue_core.proofs.issuing.serving.serve_new.Goals as goal

pub returns-in_default : goal.returns-in_default
returns-in_default g c = unknown c.args.call.now (seen_request c.args.view.now) _ _ _ _ c.holder-holder.ensures None c.in_default.ensures.found refl

pub returns-then-registration : goal.returns-then-registration
returns-then-registration g c = suspended c.args.call.now (seen_request c.args.view.now) _ _ _ _ c.holder-holder.ensures c.in-Some.registration.now c.in-Some.ensures.found c.if-registration.true

pub returns : goal.returns
returns g c = registered_goes c.args.call.now (seen_request c.args.view.now) _ _ _ _ _ _ c.in-Some.registration.now _ c.holder-holder.ensures c.in-Some.ensures.found c.if-registration.false c.serve_registered.ensures
