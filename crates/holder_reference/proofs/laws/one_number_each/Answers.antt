use Rattle.holder_reference.proofs.Digits.{decimals_are_numbers}
use Rattle.holder_reference.proofs.laws.one_number_each.Goals as goal

pub returns-clause-decimals : goal.returns-clause-decimals
returns-clause-decimals c = decimals_are_numbers
