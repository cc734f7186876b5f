use Rattle.cvc_grammar.specs.Views.{seen_cert}
use Rattle.holder_core.proofs.TakingsCa.{told_added, added_says}
use Rattle.holder_core.proofs.taking_ca.keep_below.Goals as goal

pub returns-clause-told : goal.returns-clause-told
returns-clause-told g c = told_added c.args.party c.args.cert.now.whole.now (seen_cert c.args.cert.now).body c.args.issuer.now _ _ c.in-Ok.row c.in_ok-added.added c.answer_added.result c.in-Ok.ensures.row c.answer_added.ensures c.in_ok-added.ensures.told

pub returns-clause-answered : goal.returns-clause-answered
returns-clause-answered g c = added_says c.args.party c.args.cert.now.whole.now (seen_cert c.args.cert.now).body c.args.issuer.now c.in-Ok.row c.in_ok-added.added c.answer_added.result c.in-Ok.ensures.row c.answer_added.ensures c.in_ok-added.ensures.asked
