use Rattle.std.proofs.Common.{◌≡◌, ◌≤◌, length, drop}
use Rattle.renewal_plan.specs.Renewals.{authority_on}
use Rattle.renewal_plan.proofs.planning.authority_on.Given as goal

abbrev pub invariant-loop-at : goal.invariant-loop-at
invariant-loop-at l = record {
  within : l.at ≤ length l.spans;
  best : l.best ≡ authority_on l.day (drop l.at l.spans);
}

abbrev pub decreases-loop-at : goal.decreases-loop-at
decreases-loop-at l = l.at
