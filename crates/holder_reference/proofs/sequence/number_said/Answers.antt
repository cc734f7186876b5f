use Rattle.std.proofs.Common.{arith, sym}
use Rattle.holder_reference.proofs.Digits.{one_more, none_is_more, digit_there}
use Rattle.holder_reference.proofs.sequence.number_said.Goals as goal

pub overflow_mul-number : goal.overflow_mul-number
overflow_mul-number c =
    let below = none_is_more c.args.digits.now c.loop-digit.digit-index c.requires in
    omega (arith, c.loop-digit.invariant)

pub overflow_add-number : goal.overflow_add-number
overflow_add-number c =
    let below = none_is_more c.args.digits.now c.loop-digit.digit-index c.requires in
    let digit = digit_there c.args.digits.now c.loop-digit.digit-index c.requires c.loop-digit-test.true in
    omega (arith, c.loop-digit.invariant)

pub loop-digit-preserved : goal.loop-digit-preserved
loop-digit-preserved c =
    sym (one_more c.args.digits.now c.loop-digit.digit-index c.loop-digit.number c.requires c.loop-digit-test.true c.loop-digit.invariant)

pub returns-clause-below : goal.returns-clause-below
returns-clause-below c =
    let below = none_is_more c.args.digits.now c.loop-digit.digit-index c.requires in
    omega (arith, c.loop-digit.invariant)
