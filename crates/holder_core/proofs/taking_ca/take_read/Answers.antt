use Rattle.cvc_grammar.specs.Views.{seen_cert}
use Rattle.holder_core.specs.Faults.{NoneMissing}
use Rattle.holder_core.proofs.Causes.{cause_looked}
use Rattle.holder_core.proofs.TakingsCa.{told_answered, told_below, below_asked, issuer_storable, judged_answered, judged_below}
use Rattle.holder_core.proofs.taking_ca.take_read.Goals as goal

pub returns-in-Ok-Below-clause-took : goal.returns-in-Ok-Below-clause-took
returns-in-Ok-Below-clause-took g c = told_below (g.P.SignatureProvider.says c.args.provider.now) c.args.party c.args.cert.now.whole.now (seen_cert c.args.cert.now) c.in-Ok-Below.issuer _ _ _ c.in_ok-seen.seen c.keep_below.result c.in_ok-seen.ensures.told (judged_below (g.P.SignatureProvider.says c.args.provider.now) c.args.cert.now.whole.now (seen_cert c.args.cert.now) c.in_ok-seen.seen.there c.in_ok-seen.seen.issuer c.in-Ok-Below.field-0 c.in-Ok-Below.issuer c.in-Ok-Below.field-0-is c.in-Ok-Below.ensures.judged) c.keep_below.ensures.told

pub returns-in-Ok-Below-clause-cause : goal.returns-in-Ok-Below-clause-cause
returns-in-Ok-Below-clause-cause g c = cause_looked NoneMissing _ _ _ _ _ c.in_ok-seen.seen c.see.result c.keep_below.result c.in_ok-seen.was c.see.ensures.cause c.keep_below.ensures.cause c.in-Ok-Below.ensures.cause.quiet

pub keep_below-requires-clause-issuer : goal.keep_below-requires-clause-issuer
keep_below-requires-clause-issuer g c = issuer_storable c.in_ok-seen.seen.issuer c.in-Ok-Below.issuer c.in_ok-seen.ensures.storable (judged_below (g.P.SignatureProvider.says c.args.provider.now) c.args.cert.now.whole.now (seen_cert c.args.cert.now) c.in_ok-seen.seen.there c.in_ok-seen.seen.issuer c.in-Ok-Below.field-0 c.in-Ok-Below.issuer c.in-Ok-Below.field-0-is c.in-Ok-Below.ensures.judged).1

pub returns-in-Ok-Answered-clause-took : goal.returns-in-Ok-Answered-clause-took
returns-in-Ok-Answered-clause-took g c = told_answered (g.P.SignatureProvider.says c.args.provider.now) c.args.party c.args.cert.now.whole.now (seen_cert c.args.cert.now) _ _ c.in_ok-seen.seen c.in-Ok-Answered.answer c.in_ok-seen.ensures.told (judged_answered (g.P.SignatureProvider.says c.args.provider.now) c.args.cert.now.whole.now (seen_cert c.args.cert.now) c.in_ok-seen.seen.there c.in_ok-seen.seen.issuer c.in-Ok-Answered.field-0 c.in-Ok-Answered.answer c.in-Ok-Answered.field-0-is c.in-Ok-Answered.ensures.judged)

pub returns-in-Ok-Below-clause-answered : goal.returns-in-Ok-Below-clause-answered
returns-in-Ok-Below-clause-answered g c = below_asked (g.P.SignatureProvider.says c.args.provider.now) c.args.party c.args.cert.now.whole.now (seen_cert c.args.cert.now) c.in_ok-seen.seen c.keep_below.result c.in_ok-seen.ensures.asked (judged_below (g.P.SignatureProvider.says c.args.provider.now) c.args.cert.now.whole.now (seen_cert c.args.cert.now) c.in_ok-seen.seen.there c.in_ok-seen.seen.issuer c.in-Ok-Below.field-0 c.in-Ok-Below.issuer c.in-Ok-Below.field-0-is c.in-Ok-Below.ensures.judged).0 c.keep_below.ensures.answered
