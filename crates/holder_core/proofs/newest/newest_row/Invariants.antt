use Rattle.std.proofs.Common.{◌≡◌, ◌≤◌, length, drop}
use Rattle.std.specs.Prelude.{IfSome, IsSome}
use Rattle.std.specs.Option.{option_copied}
use Rattle.holder_core.specs.Signers.{wanted_in, wanted_at, newest_wanted}
use Rattle.holder_core.proofs.newest.newest_row.Given as goal

abbrev pub invariant-loop-at : goal.invariant-loop-at
invariant-loop-at l = record {
  within : l.at ≤ length l.rows;
  newest : wanted_at l.wanted (option_copied l.best) ≡ newest_wanted l.wanted (drop l.at l.rows);
  wanted : IfSome (option_copied l.best) (λ row. IsSome (wanted_in l.wanted row));
}

abbrev pub decreases-loop-at : goal.decreases-loop-at
decreases-loop-at l = l.at
