use Rattle.std.proofs.Common.{inr}
use Rattle.holder_core.proofs.Sizes.{body_legal, cert_legal}
use Rattle.holder_core.proofs.Signings.{err_is, cause_again}
use Rattle.cvca_desk.proofs.Makings.{cert_with, finish_size, certified, signed_body}
use Rattle.cvca_desk.proofs.making.certify.Goals as goal

pub write_body-requires : goal.write_body-requires
write_body-requires g c = body_legal c.args.body.now c.requires.bare c.requires.key c.requires.authority c.requires.holder

pub returns-in_err-signature-clause-cause : goal.returns-in_err-signature-clause-cause
returns-in_err-signature-clause-cause g c = cause_again _ _ _ _ _ (err_is _ _ c.from_residual.ensures.1) c.in_err-signature.ensures.cause

pub finish_cert-requires-clause-size : goal.finish_cert-requires-clause-size
finish_cert-requires-clause-size g c = finish_size c.args.body.now c.in-Ok.text _ c.in_ok-signature.signature _ c.in-Ok.ensures c.as_slice-2.ensures c.as_slice-3.ensures (cert_legal (cert_with c.args.body.now c.in_ok-signature.signature) c.requires.bare c.requires.key c.requires.authority c.requires.holder c.in_ok-signature.ensures.made.size)

pub returns-in-Ok-finish_cert-clause-made : goal.returns-in-Ok-finish_cert-clause-made
returns-in-Ok-finish_cert-clause-made g c = certified _ _ c.args.due.now.by c.args.body.now c.in-Ok.text _ _ c.in_ok-signature.signature _ _ c.in-Ok.ensures c.as_slice-2.ensures c.as_slice.ensures c.as_slice-3.ensures c.in_ok-signature.ensures.made c.in-Ok-finish_cert.ensures.cert

pub returns-in-Ok-finish_cert-clause-signed : goal.returns-in-Ok-finish_cert-clause-signed
returns-in-Ok-finish_cert-clause-signed g c = signed_body _ c.args.due.now.by c.args.body.now c.in-Ok.text _ c.in-Ok.ensures c.as_slice.ensures c.in_ok-signature.ensures.signed

pub returns-clause-signed : goal.returns-clause-signed
returns-clause-signed g c = inr (signed_body _ c.args.due.now.by c.args.body.now c.in-Ok.text _ c.in-Ok.ensures c.as_slice.ensures c.in_ok-signature.ensures.signed)
