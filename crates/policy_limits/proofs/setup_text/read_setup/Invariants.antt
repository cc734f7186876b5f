use Rattle.std.proofs.Common.{◌≡◌, ◌≤◌, ◌+◌, length}
use Rattle.plain_text.specs.Lines.{numbered_from}
use Rattle.policy_limits.specs.SetupText.{with_lines, read_setup}
use Rattle.policy_limits.proofs.setup_text.read_setup.Given as goal

-- what the lines that are left say behind those that were taken is what all of them say
abbrev pub invariant-loop-number : goal.invariant-loop-number
invariant-loop-number l = record { room : l.last + length l.rest ≤ length l.text; same : read_setup l.text ≡ with_lines l.setup (numbered_from (l.last + 1) l.rest) }

abbrev pub decreases-loop-number : goal.decreases-loop-number
decreases-loop-number l = length l.rest
