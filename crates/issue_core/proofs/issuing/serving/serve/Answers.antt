use Rattle.std.proofs.Common.{[], refl, sym, ◌∙◌}
use Rattle.cvc_grammar.specs.RequestViews.{seen_request}
use Rattle.issue_core.specs.Issuing.Calls.{bare_case}
use Rattle.issue_core.proofs.IssuingDesk.Messages.{reads}
use Rattle.issue_core.proofs.IssuingDesk.Owing.{owes_unread}
use Rattle.issue_core.proofs.IssuingDesk.ServedTold.{whole_unread, whole_read}
use Rattle.issue_core.proofs.issuing.serving.serve.Goals as goal

pub returns-in-Err : goal.returns-in-Err
returns-in-Err g c = record {
  told = whole_unread (g.P.SignatureProvider.says c.args.provider.now) _ _ _ c.args.call.now _ _ _ c.in-Err.refusal refl c.in-Err.ensures.exact;
  any = owes_unread (g.P.SignatureProvider.says c.args.provider.now) (bare_case c.args.call.now.setup.now c.args.call.now.desk c.args.call.now.day c.args.call.now.bytes.now []) _ _ c.in-Err.refusal c.in-Err.ensures.exact;
}

pub returns-in-Ok : goal.returns-in-Ok
returns-in-Ok g c = record {
  told = whole_read (g.P.SignatureProvider.says c.args.provider.now) _ _ _ c.args.call.now _ _ (seen_request c.in-Ok.view) _ _ _ c.in-Ok.ensures.exact c.serve_read.ensures.told;
  any = c.serve_read.ensures.any (bare_case c.args.call.now.setup.now c.args.call.now.desk c.args.call.now.day c.args.call.now.bytes.now []) (record { setup = refl; desk = refl; day = refl; bytes = refl }) (sym (reads c.args.call.now.bytes.now) ∙ c.in-Ok.ensures.exact);
}
