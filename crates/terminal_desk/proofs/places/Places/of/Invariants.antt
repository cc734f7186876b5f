use Rattle.std.proofs.Common.{◌≤◌, length, drop}
use Rattle.terminal_desk.specs.Walks.{FindsFirst}
use Rattle.terminal_desk.proofs.places.Places.of.Given as goal

abbrev pub invariant-rows : goal.invariant-rows
invariant-rows l = record {
  within : l.at ≤ length l.rows;
  first : FindsFirst l.rows l.places.places (drop l.at l.rows);
}

abbrev pub decreases-rows : goal.decreases-rows
decreases-rows l = l.at
