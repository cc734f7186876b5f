use Rattle.std.proofs.Common.{◌≡◌, ◌≤◌, ◌+◌, ◌-◌, ◌++◌, length, drop}
use Rattle.desk_core.specs.Lists.{certificates}
use Rattle.desk_core.proofs.listing.count.Given as goal

-- those before the place are counted
abbrev pub invariant-rows : goal.invariant-rows
invariant-rows l = record {
  within : l.at ≤ length (l.front ++ l.back);
  few : l.count ≤ l.at;
  counted : l.count + length (certificates (drop l.at (l.front ++ l.back))) ≡ length (certificates (l.front ++ l.back));
}

abbrev pub decreases-rows : goal.decreases-rows
decreases-rows l = length (l.front ++ l.back) - l.at
