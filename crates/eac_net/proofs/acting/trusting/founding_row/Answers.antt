use Rattle.eac_net.proofs.Trustings.{founding_named, told_named, asked_named}
use Rattle.eac_net.proofs.acting.trusting.founding_row.Goals as goal

pub returns-in-Ok-clause-told : goal.returns-in-Ok-clause-told
returns-in-Ok-clause-told g c = told_named c.args.setup.now c.args.authority _ _ c.numbered-reference.result c.in-Ok.found (founding_named c.args.setup.now c.args.authority c.in-Some.party.now c.numbered-reference.result c.in-Some.ensures.found c.numbered-reference.ensures) c.in-Ok.ensures.told

pub returns-in-Ok-clause-asked : goal.returns-in-Ok-clause-asked
returns-in-Ok-clause-asked g c = asked_named c.args.setup.now c.args.authority c.numbered-reference.result c.in-Ok.found (founding_named c.args.setup.now c.args.authority c.in-Some.party.now c.numbered-reference.result c.in-Some.ensures.found c.numbered-reference.ensures) c.in-Ok.ensures.asked
