use Rattle.cvc_grammar.specs.Views.{seen_cert}
use Rattle.holder_core.specs.Readings.{settled_of}
use Rattle.holder_core.proofs.Takings.{told_settling, settling_says}
use Rattle.holder_core.proofs.taking.settle.Goals as goal

pub returns-clause-told : goal.returns-clause-told
returns-clause-told g c = told_settling c.args.party c.args.cert.now.whole.now c.args.cert.now.holder c.in-Ok.settled (settled_of c.args.cert.now.whole.now (seen_cert c.args.cert.now).body) _ _ c.settle-done.result c.answer_settled.result c.in-Ok.ensures.settled c.answer_settled.ensures c.settle-done.ensures.told

pub returns-clause-answered : goal.returns-clause-answered
returns-clause-answered g c = settling_says c.args.party c.args.cert.now.whole.now c.args.cert.now.holder c.settle-done.result c.answer_settled.result c.answer_settled.ensures c.settle-done.ensures.asked
