use Rattle.holder_core.proofs.Choosings.{ca_wanted, below_made, below_broken}
use Rattle.holder_core.proofs.requesting.compose_below.Goals as goal

pub compose-requires-clause-form : goal.compose-requires-clause-form
compose-requires-clause-form g c = (ca_wanted c.args.fit.now c.args.above.now c.in-Ca.ca c.requires.fit.0 c.requires.fit.1 c.requires.fit.2 c.in-Ca.is c.requires.above).0

pub returns-clause-made : goal.returns-clause-made
returns-clause-made g c = below_made _ _ _ _ _ _ _ _ (ca_wanted c.args.fit.now c.args.above.now c.in-Ca.ca c.requires.fit.0 c.requires.fit.1 c.requires.fit.2 c.in-Ca.is c.requires.above).1 _ c.compose.ensures.made

pub returns-clause-broken : goal.returns-clause-broken
returns-clause-broken g c = below_broken _ _ _ _ _ _ _ _ (ca_wanted c.args.fit.now c.args.above.now c.in-Ca.ca c.requires.fit.0 c.requires.fit.1 c.requires.fit.2 c.in-Ca.is c.requires.above).1 _ c.compose.ensures.broken
