use Rattle.std.proofs.Common.{◌≡◌, length}
use Rattle.eac_cli.proofs.chips.blank_chips.Given as goal

abbrev pub invariant-loop : goal.invariant-loop
invariant-loop l = length l.chips.items ≡ l.counter
