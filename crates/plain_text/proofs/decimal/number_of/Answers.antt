use Rattle.std.proofs.Common.{◌+◌, None, Some, ◌∙◌}
use Rattle.plain_text.proofs.Numbers.{number_more, too_great}
use Rattle.plain_text.proofs.decimal.number_of.Goals as goal

pub returns-in_err-number : goal.returns-in_err-number
returns-in_err-number c = c.from_residual.ensures ∙ too_great c.args.digits.now (c.loop-digit.digit-index + 1) (number_more c.args.digits.now c.loop-digit.digit-index c.loop-digit.number None c.requires c.loop-digit-test.true c.loop-digit.invariant c.in_err-number.ensures)

pub loop-digit-preserved : goal.loop-digit-preserved
loop-digit-preserved c = number_more c.args.digits.now c.loop-digit.digit-index c.loop-digit.number (Some c.in_ok-number.number) c.requires c.loop-digit-test.true c.loop-digit.invariant c.in_ok-number.ensures
