use Rattle.std.proofs.Common.{Ok, Err, refl}
use Rattle.cvc_grammar.specs.Views.{seen_cert}
use Rattle.holder_core.specs.declared.take_rule.Taken.TheVariants as taken
use Rattle.holder_core.specs.declared.take_rule.TakeRule.TheVariants as rule
use Rattle.holder_core.proofs.Readings.{cert_read}
use Rattle.holder_core.proofs.Takings.{told_as_read, told_unread, asked_as_read, asked_unread}
use Rattle.holder_core.proofs.taking.take_certificate.Goals as goal

pub returns-in-Err-clause-took : goal.returns-in-Err-clause-took
returns-in-Err-clause-took g c = told_as_read (g.P.SignatureProvider.says c.args.provider.now) c.args.party c.args.bytes.now c.args.bytes.now (Err c.in-Err.refusal) _ _ (Ok (taken.Refused (rule.Syntax c.in-Err.refusal))) (cert_read c.args.bytes.now (Err c.in-Err.refusal) c.in-Err.ensures.exact) refl (told_unread (g.P.SignatureProvider.says c.args.provider.now) c.args.party c.args.bytes.now c.in-Err.refusal _)

pub returns-in-Err-clause-answered : goal.returns-in-Err-clause-answered
returns-in-Err-clause-answered g c = asked_unread (g.P.SignatureProvider.says c.args.provider.now) c.args.party c.args.bytes.now c.in-Err.refusal (cert_read c.args.bytes.now (Err c.in-Err.refusal) c.in-Err.ensures.exact)

pub returns-in-Ok-clause-took : goal.returns-in-Ok-clause-took
returns-in-Ok-clause-took g c = told_as_read (g.P.SignatureProvider.says c.args.provider.now) c.args.party c.args.bytes.now c.in-Ok.cert.whole.now (Ok (seen_cert c.in-Ok.cert)) _ _ c.take_read.result (cert_read c.args.bytes.now (Ok (seen_cert c.in-Ok.cert)) c.in-Ok.ensures.exact) c.in-Ok.ensures.found.whole c.take_read.ensures.took

pub returns-in-Ok-clause-answered : goal.returns-in-Ok-clause-answered
returns-in-Ok-clause-answered g c = asked_as_read (g.P.SignatureProvider.says c.args.provider.now) c.args.party c.args.bytes.now c.in-Ok.cert.whole.now (Ok (seen_cert c.in-Ok.cert)) c.take_read.result (cert_read c.args.bytes.now (Ok (seen_cert c.in-Ok.cert)) c.in-Ok.ensures.exact) c.in-Ok.ensures.found.whole c.take_read.ensures.answered
