use Rattle.holder_core.specs.Trusting.{carried}
use Rattle.holder_core.proofs.Trustings.{told_trusted, trusted_says}
use Rattle.holder_core.proofs.trusting.trust_ca.Goals as goal

pub returns-clause-trusts : goal.returns-clause-trusts
returns-clause-trusts g c = told_trusted c.args.party c.args.row.now.reference _ _ (carried c.args.row.now.part) c.in-Ok.trusted c.in_ok-added.added c.answer_trusted.result c.in-Ok.ensures.row c.answer_trusted.ensures c.in_ok-added.ensures.told

pub returns-clause-answered : goal.returns-clause-answered
returns-clause-answered g c = trusted_says c.args.party c.args.row.now.reference (carried c.args.row.now.part) c.in-Ok.trusted c.in_ok-added.added c.answer_trusted.result c.requires.carried c.in-Ok.ensures.row c.answer_trusted.ensures c.in_ok-added.ensures.asked
