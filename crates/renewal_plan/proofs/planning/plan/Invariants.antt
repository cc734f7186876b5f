use Rattle.std.proofs.Common.{◌≤◌, reverse}
use Rattle.renewal_plan.specs.Searching.{HasDays}
use Rattle.renewal_plan.proofs.Sweeping.{Swept}
use Rattle.renewal_plan.proofs.planning.plan.Given as goal

abbrev pub invariant-loop-number : goal.invariant-loop-number
invariant-loop-number l = record {
  days : HasDays l.closed l.need.closed;
  since : l.need.first ≤ l.number;
  ahead : l.number ≤ l.next;
  swept : Swept l.need l.number l.next l.best (reverse l.planned);
}
