use Rattle.policy_limits.proofs.Setups.{party_pushed}
use Rattle.policy_limits.proofs.setup_text.add.Goals as goal

pub invariant_of-setup : goal.invariant_of-setup
invariant_of-setup c =
    (party_pushed c.push.result c.args.setup.now c.args.line c.setup.inside.parties c.push.new.self c.setup.inside.registrations c.in-Party.party c.setup.view_is c.in-Party.is c.setup.invariant.0 c.requires.fits c.requires.new c.push.ensures.pushed c.push.ensures.kept, c.setup.invariant.1)
