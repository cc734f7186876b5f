use Rattle.std.proofs.Common.{refl, sym, subst}
use Rattle.std.specs.Prelude.{IfSome}
use Rattle.policy_limits.specs.Desks.{AreAt}
use Rattle.policy_limits.specs.declared.setup_line.SetupLine.TheVariants as said
use Rattle.policy_limits.proofs.Setups.{registration_pushed}
use Rattle.policy_limits.proofs.setup_text.add_registration.Goals as goal

pub invariant_of-setup-2 : goal.invariant_of-setup-2
invariant_of-setup-2 c =
    let desks_before = subst (λ o. IfSome o (λ d. AreAt d.lists c.setup.inside.registrations)) (sym c.take.ensures.value) c.setup.invariant.1 in (
      registration_pushed c.push.result c.args.setup.now (said.Registration c.args.registration) c.setup.inside.parties c.setup.inside.registrations c.push.new.self c.args.registration c.setup.view_is refl c.setup.invariant.0 c.requires.fits c.requires.new c.push.ensures.pushed c.push.ensures.kept,
      subst (λ gs. IfSome c.with_more-desks.result (λ d. AreAt d.lists gs)) (sym c.in_ok-push.ensures.pushed) (c.with_more-desks.ensures c.setup.inside.registrations desks_before),
    )
