use Rattle.holder_core.specs.Trusting.{carried}
use Rattle.eac_net.proofs.Trustings.{told_trusts, row_asked_as}
use Rattle.eac_net.proofs.acting.trusting.trust_row.Goals as goal

pub returns-clause-told : goal.returns-clause-told
returns-clause-told g c = told_trusts c.args.party c.args.row.now.reference (carried c.args.row.now.part) _ _ c.in_ok-taken.taken c.trusted.result c.in_ok-taken.ensures.answered c.trusted.ensures c.in_ok-taken.ensures.trusts

pub returns-clause-asked : goal.returns-clause-asked
returns-clause-asked g c = row_asked_as c.args.party c.args.row.now.reference c.in_ok-taken.taken c.trusted.result c.in_ok-taken.ensures.answered c.trusted.ensures
