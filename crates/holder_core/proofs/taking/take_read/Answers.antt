use Rattle.cvc_grammar.specs.Views.{seen_cert}
use Rattle.holder_core.specs.Faults.{NoneMissing}
use Rattle.holder_core.proofs.Causes.{cause_looked}
use Rattle.holder_core.proofs.Takings.{told_settled, judged_waits}
use Rattle.holder_core.proofs.taking.take_read.Goals as goal

pub returns-in-Ok-Waits-clause-took : goal.returns-in-Ok-Waits-clause-took
returns-in-Ok-Waits-clause-took g c = told_settled (g.P.SignatureProvider.says c.args.provider.now) c.args.party c.args.cert.now.whole.now (seen_cert c.args.cert.now) _ _ _ c.in_ok-seen.seen c.settle.result c.in_ok-seen.ensures.told (judged_waits (g.P.SignatureProvider.says c.args.provider.now) c.args.cert.now.whole.now (seen_cert c.args.cert.now) c.in_ok-seen.seen.own c.in_ok-seen.seen.issuer c.in-Ok-Waits.field-0 c.in-Ok-Waits.field-0-is c.in-Ok-Waits.ensures.judged) c.settle.ensures.told

pub returns-in-Ok-Waits-clause-cause : goal.returns-in-Ok-Waits-clause-cause
returns-in-Ok-Waits-clause-cause g c = cause_looked NoneMissing _ _ _ _ _ c.in_ok-seen.seen c.see.result c.settle.result c.in_ok-seen.was c.see.ensures.cause c.settle.ensures.cause c.in-Ok-Waits.ensures.cause.quiet
