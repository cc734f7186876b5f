use Rattle.cvc_grammar.specs.RequestViews.{seen_request}
use Rattle.issue_core.proofs.IssuingDesk.Caused.{err_is, unmade_again}
use Rattle.issue_core.proofs.IssuingDesk.Makings.{due_legal, signed_legal, is_made}
use Rattle.issue_core.proofs.issuing.making.make.Goals as goal

pub write_body-requires : goal.write_body-requires
write_body-requires g c = due_legal (seen_request c.args.view.now) c.args.registration.now c.args.signer.now c.args.days c.requires c.keeps_its_grammar.ensures c.keeps_its_grammar-2.ensures c.in_ok-body.body c.in_ok-body.ensures

pub returns-in_err-signature-clause-cause : goal.returns-in_err-signature-clause-cause
returns-in_err-signature-clause-cause g c = unmade_again _ _ _ _ _ _ (err_is _ _ c.from_residual-in_err-signature.ensures.1) c.in_err-signature.ensures.cause

pub finish-requires-clause-legal : goal.finish-requires-clause-legal
finish-requires-clause-legal g c = signed_legal (seen_request c.args.view.now) c.args.registration.now c.args.signer.now c.args.days c.requires c.keeps_its_grammar.ensures c.keeps_its_grammar-2.ensures c.in_ok-body.body c.in_ok-signature.signature _ c.in_ok-body.ensures c.in_ok-signature.ensures.made.size c.as_slice-3.ensures

pub returns-clause-made : goal.returns-clause-made
returns-clause-made g c = is_made _ (g.P.SignatureProvider.holds c.args.provider.now) (seen_request c.args.view.now) c.args.registration.now c.args.signer.now c.args.days c.in_ok-body.body c.in_ok-signature.signature _ c.in_ok-finish.field-0 c.in_ok-body.ensures c.in_ok-signature.ensures.made c.as_slice-3.ensures c.in_ok-finish.ensures.text c.in_ok-finish.ensures.settled
