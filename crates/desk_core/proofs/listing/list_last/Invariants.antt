use Rattle.std.proofs.Common.{◌≡◌, ◌≤◌, ◌-◌, ◌++◌, length, drop}
use Rattle.desk_core.specs.Lists.{certificates, last_of, most_listed}
use Rattle.desk_core.proofs.listing.list_last.Given as goal

-- those from the place on are left, and the last ones of them are still to be listed
abbrev pub invariant-rows : goal.invariant-rows
invariant-rows l = record {
  within : l.at ≤ length (l.front ++ l.back);
  left_is : l.left ≡ length (certificates (drop l.at (l.front ++ l.back)));
  so_far : l.list ++ last_of most_listed (certificates (drop l.at (l.front ++ l.back))) ≡ last_of most_listed (certificates (l.front ++ l.back));
}

abbrev pub decreases-rows : goal.decreases-rows
decreases-rows l = length (l.front ++ l.back) - l.at
