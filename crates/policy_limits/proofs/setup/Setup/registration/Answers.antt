use Rattle.std.proofs.Common.{ap, ◌∙◌}
use Rattle.policy_limits.specs.Setup as setups
use Rattle.policy_limits.proofs.setup.Setup.registration.Goals as goal

pub returns-in-Some-clause-found : goal.returns-in-Some-clause-found
returns-in-Some-clause-found c =
    c.at.ensures c.self.inside.registrations (rw c.in-Some.is at c.self.invariant.1) ∙ ap (λ r. setups.registration r c.args.desk c.args.holder.now) c.self.view_is
