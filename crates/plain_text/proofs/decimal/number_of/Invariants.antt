use Rattle.std.proofs.Common.{◌≡◌, Some, take}
use Rattle.std.specs.Str.Parse.{digits_value}
use Rattle.plain_text.specs.Digits.{in_four_bytes}
use Rattle.plain_text.proofs.decimal.number_of.Given as goal

abbrev pub invariant-loop-digit : goal.invariant-loop-digit
invariant-loop-digit l = Some l.number ≡ in_four_bytes (digits_value 10 (take l.digit-index l.digits))
