use Rattle.std.proofs.Common.{◌≤◌, ◌+◌, length}
use Rattle.eac_cli.proofs.Reading.{Reading}
use Rattle.eac_cli.proofs.script.read_script.Given as goal

abbrev pub invariant-loop-line : goal.invariant-loop-line
invariant-loop-line l = record { room : l.last + length l.rest ≤ length l.bytes; reading : Reading l.chips l.bytes l.rest l.last l.script.setup l.today l.script.events }

abbrev pub decreases-loop-line : goal.decreases-loop-line
decreases-loop-line l = length l.rest
