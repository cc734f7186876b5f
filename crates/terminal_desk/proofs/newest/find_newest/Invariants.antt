use Rattle.std.proofs.Common.{◌≡◌, ◌≤◌, length, drop}
use Rattle.terminal_desk.specs.Chain.{own_certificates}
use Rattle.terminal_desk.specs.Walks.{AreLost, IsNewest}
use Rattle.terminal_desk.proofs.newest.find_newest.Given as goal

abbrev pub invariant-rows : goal.invariant-rows
invariant-rows l = record {
  within : l.at ≤ length l.own;
  lost : AreLost l.cars l.cas l.met;
  all : length l.met ≡ length l.cas;
  newest : IsNewest l.cars l.cas (own_certificates (drop l.at l.own)) l.best;
}

abbrev pub decreases-rows : goal.decreases-rows
decreases-rows l = l.at
