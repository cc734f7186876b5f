use Rattle.std.proofs.Common.{◌≡◌, ◌≤◌, length, drop}
use Rattle.std.specs.Option.{option_copied}
use Rattle.issue_core.specs.Issuing.Rules.{signers, newest}
use Rattle.issue_core.specs.Issuing.Looks.{signer_at}
use Rattle.issue_core.proofs.issuing.signer_row.newest_row.Given as goal

abbrev pub invariant-loop-at : goal.invariant-loop-at
invariant-loop-at l = record {
  within : l.at ≤ length l.rows;
  newest : signer_at (option_copied l.best) ≡ newest (signers (drop l.at l.rows));
}

abbrev pub decreases-loop-at : goal.decreases-loop-at
decreases-loop-at l = l.at
