use Rattle.std.proofs.Common.{◌≡◌, ◌++◌, take}
use Rattle.std.specs.Prelude.{flat_map}
use Rattle.eac_cli.specs.PlanText.{renewal_line}
use Rattle.eac_cli.proofs.plan.push_renewals.Given as goal

abbrev pub invariant-loop-renewal : goal.invariant-loop-renewal
invariant-loop-renewal l = l.out ≡ l.fn.out ++ flat_map renewal_line (take l.renewal-index l.renewals)
