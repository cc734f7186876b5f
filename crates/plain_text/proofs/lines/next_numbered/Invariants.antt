use Rattle.std.proofs.Common.{◌≡◌, ◌+◌, ◌≤◌, length}
use Rattle.plain_text.specs.Lines.{numbered_from}
use Rattle.plain_text.proofs.lines.next_numbered.Given as goal

abbrev pub invariant-loop-rest : goal.invariant-loop-rest
invariant-loop-rest l = record {
  same : numbered_from (l.last + 1) l.bytes ≡ numbered_from (l.number + 1) l.rest;
  within : length l.rest ≤ length l.bytes;
  room : l.number + length l.rest ≤ l.last + length l.bytes;
}

abbrev pub decreases-loop-rest : goal.decreases-loop-rest
decreases-loop-rest l = length l.rest
