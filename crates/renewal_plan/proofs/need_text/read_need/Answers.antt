use Rattle.std.proofs.Common.{◌≡◌, ◌+◌, [], rules}
use Rattle.plain_text.specs.Lines.{numbered_from}
use Rattle.renewal_plan.proofs.NeedLimits.{needs_are_within}
use Rattle.renewal_plan.proofs.NeedReading.{all_read}
use Rattle.renewal_plan.proofs.need_text.read_need.Goals as goal

pub returns-in-Some-need_of-clause-within : goal.returns-in-Some-need_of-clause-within
returns-in-Some-need_of-clause-within c =
    let none : numbered_from (c.loop-number.last + 1) c.loop-number.rest.now ≡ [] = search rules in
    needs_are_within c.args.text.now c.in-Some-need_of.need
    (all_read c.args.text.now c.in-Some-need_of.need c.loop-number.reading (numbered_from (c.loop-number.last + 1) c.loop-number.rest.now)
    c.loop-number.invariant.same none c.in-Some-need_of.ensures)
