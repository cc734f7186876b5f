use Rattle.std.proofs.Common.{◌∙◌, refl}
use Rattle.cvc_grammar.specs.RequestViews.{seen_request}
use Rattle.keeper.specs.declared.rows.Part.TheVariants as part
use Rattle.issue_core.proofs.IssuingDesk.Answering.{answered_entered}
use Rattle.issue_core.proofs.IssuingDesk.Caused.{err_is}
use Rattle.issue_core.proofs.IssuingDesk.Owing.{owes_entered, adding_ends}
use Rattle.issue_core.proofs.IssuingDesk.Served.{keeper_rose}
use Rattle.issue_core.proofs.IssuingDesk.ServedTold.{told_entered}
use Rattle.issue_core.proofs.IssuingDesk.Serving.{wanting, unmade}
use Rattle.issue_core.proofs.IssuingDesk.Storable.{row_storable}
use Rattle.issue_core.proofs.issuing.serving.serve_granted.Goals as goal

pub returns-in_err-kept : goal.returns-in_err-kept
returns-in_err-kept g c = wanting c.args.call.now (seen_request c.args.view.now) c.args.registration.now c.args.grant.now.signer.now c.args.grant.now.days _ _ _ _ (err_is _ _ c.from_residual.ensures.1)

pub returns-in_err-key : goal.returns-in_err-key
returns-in_err-key g c = wanting c.args.call.now (seen_request c.args.view.now) c.args.registration.now c.args.grant.now.signer.now c.args.grant.now.days _ _ _ _ (err_is _ _ c.from_residual-in_err-key.ensures.1)

pub returns-in_err-text : goal.returns-in_err-text
returns-in_err-text g c = unmade c.args.call.now (seen_request c.args.view.now) c.args.registration.now c.args.grant.now.signer.now c.args.grant.now.days _ _ _ _ _ _ (err_is _ _ c.from_residual-in_err-text.ensures.1) c.in_err-text.ensures.cause c.in_err-text.ensures.provider c.in_err-text.ensures.signed

pub enter-requires : goal.enter-requires
enter-requires g c = row_storable _ _ _ _ c.in_ok-kept.kept (seen_request c.args.view.now) c.args.registration.now c.args.grant.now.signer.now c.args.grant.now.days c.in_ok-text.field-0 c.issued_row-row.result c.requires.request c.in_ok-kept.ensures c.in_ok-text.ensures.made
    (c.issued_row-row.ensures ∙ (λ i. record { desk = c.args.call.now.desk; reference = c.args.view.now.holder; part = part.Issued (record { request = c.in_ok-kept.kept; key = c.in_ok-key.ensures i; settled = c.in_ok-text.field-0.settled }) }))

pub returns : goal.returns
returns g c =
    let row = c.issued_row-row.ensures ∙ (λ i. record { desk = c.args.call.now.desk; reference = c.args.view.now.holder; part = part.Issued (record { request = c.in_ok-kept.kept; key = c.in_ok-key.ensures i; settled = c.in_ok-text.field-0.settled }) }) in
    record {
      told = told_entered _ _ _ c.args.call.now (seen_request c.args.view.now) c.args.registration.now c.args.grant.now.signer.now c.args.grant.now.days _ _ c.in_ok-kept.kept _ _ c.in_ok-text.field-0 c.issued_row-row.result c.enter.result c.in_ok-kept.ensures c.in_ok-text.ensures.made c.in_ok-text.ensures.signed row (keeper_rose _ _ _ c.enter.ensures.cause) c.enter.ensures.told;
      any = λ k its said may. owes_entered said k (seen_request c.args.view.now) c.args.registration.now c.args.grant.now.signer.now c.args.grant.now.days may _ _ _ c.in_ok-text.field-0 _ c.enter.result refl
          (answered_entered _ (g.P.SignatureProvider.holds c.args.provider.now) c.args.call.now (seen_request c.args.view.now) c.args.registration.now c.args.grant.now.signer.now c.args.grant.now.days c.in_ok-kept.kept c.in_ok-text.field-0 c.issued_row-row.result c.enter.result c.in_ok-text.ensures.made row c.enter.ensures.answered said k its may)
          c.in_ok-text.ensures.cause c.enter.ensures.cause c.in_ok-text.ensures.provider c.in_ok-text.ensures.signed (adding_ends c.issued_row-row.result _ _ _ c.enter.result c.enter.ensures.answered c.enter.ensures.cause.failed);
    }
