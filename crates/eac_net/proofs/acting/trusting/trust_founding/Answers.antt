use Rattle.std.proofs.Common.{ap, rules}
use Rattle.std.specs.Prelude.{IsSome}
use Rattle.holder_core.specs.Trusting.{carried}
use Rattle.holder_core.proofs.Signings.{err_is}
use Rattle.eac_net.specs.Acting.{carried_in}
use Rattle.eac_net.proofs.Trustings.{told_unread, told_unfounded, told_founded, founded_asked, unfounded_asked}
use Rattle.eac_net.proofs.acting.trusting.trust_founding.Goals as goal

pub returns-in_err-row-clause-told : goal.returns-in_err-row-clause-told
returns-in_err-row-clause-told g c = told_unread c.args.setup.now c.args.party c.args.authority _ _ _ _ (err_is _ _ c.from_residual.ensures.1) c.in_err-row.ensures.told

pub returns-in_default-clause-told : goal.returns-in_default-clause-told
returns-in_default-clause-told g c = told_unfounded c.args.setup.now c.args.party c.args.authority _ _ c.in_ok-row.field-0 (ap carried_in c.in_default.is) c.in_ok-row.ensures.told

pub returns-in_default-clause-asked : goal.returns-in_default-clause-asked
returns-in_default-clause-asked g c = unfounded_asked c.args.setup.now c.args.party c.args.authority c.in_ok-row.field-0 (ap carried_in c.in_default.is) c.in_ok-row.ensures.asked

pub returns-clause-told : goal.returns-clause-told
returns-clause-told g c =
    let some : IsSome (carried c.in-Some.row.part) = search rules in
    told_founded c.args.setup.now c.args.party c.args.authority _ _ _ c.in_ok-row.field-0 c.in-Some.row c.trust_row.result c.in-Some.is some c.in_ok-row.ensures.asked c.in_ok-row.ensures.told c.trust_row.ensures.told

pub returns-clause-asked : goal.returns-clause-asked
returns-clause-asked g c =
    let some : IsSome (carried c.in-Some.row.part) = search rules in
    founded_asked c.args.setup.now c.args.party c.args.authority c.in_ok-row.field-0 c.in-Some.row c.trust_row.result c.in-Some.is some c.in_ok-row.ensures.asked c.trust_row.ensures.asked
