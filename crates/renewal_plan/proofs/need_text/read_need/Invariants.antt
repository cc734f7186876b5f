use Rattle.std.proofs.Common.{◌≡◌, ◌≤◌, ◌+◌, length}
use Rattle.eac_base.specs.Text.{numbered_lines}
use Rattle.plain_text.specs.Lines.{numbered_from}
use Rattle.renewal_plan.specs.NeedText.{with_lines}
use Rattle.renewal_plan.specs.declared.need_text.Reading.TheVariants as next
use Rattle.renewal_plan.proofs.need_text.read_need.Given as goal

-- what the lines that are left say behind those that were taken is what all of them say
abbrev pub invariant-loop-number : goal.invariant-loop-number
invariant-loop-number l = record {
  room : l.last + length l.rest ≤ length l.text;
  same : with_lines next.Need (numbered_lines l.text) ≡ with_lines l.reading (numbered_from (l.last + 1) l.rest);
}

abbrev pub decreases-loop-number : goal.decreases-loop-number
decreases-loop-number l = length l.rest
