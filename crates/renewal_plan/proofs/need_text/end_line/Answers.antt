use Rattle.std.proofs.Common.{◌<◌, length, arith, rules}
use Rattle.renewal_plan.proofs.LineCounts.{one_line_less, last_line, shorter}
use Rattle.renewal_plan.proofs.need_text.end_line.Goals as goal

pub returns-then-rest-at : goal.returns-then-rest-at
returns-then-rest-at c =
    let some : 0 < length c.loop-rest.rest.now = search rules in
    omega (arith, last_line c.loop-rest.rest.now c.first_at-at.result c.first_at-at.ensures c.if-rest-at.true some)

pub loop-rest-preserved : goal.loop-rest-preserved
loop-rest-preserved c =
    let more : c.first_at-at.result < length c.loop-rest.rest.now = omega arith in
    record {
      room = omega (arith, shorter c.loop-rest.rest.now c.first_at-at.result more);
      counted = omega (arith, one_line_less c.loop-rest.rest.now c.first_at-at.result c.first_at-at.ensures more);
    }
