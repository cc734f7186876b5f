use Rattle.std.proofs.Common.{◌≡◌, ◌≤◌, ◌++◌, length, take}
use Rattle.std.specs.Prelude.{reverse}
use Rattle.terminal_desk.proofs.chain.turn.Given as goal

abbrev pub invariant-down : goal.invariant-down
invariant-down l = record {
  within : l.at ≤ length l.upward;
  so_far : l.chain ++ reverse (take l.at l.upward) ≡ reverse l.upward;
}

abbrev pub decreases-down : goal.decreases-down
decreases-down l = l.at
