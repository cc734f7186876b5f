use Rattle.std.proofs.Common.{◌≡◌, take}
use Rattle.holder_reference.specs.Sequence as count
use Rattle.holder_reference.proofs.sequence.number_said.Given as goal

abbrev pub invariant-loop-digit : goal.invariant-loop-digit
invariant-loop-digit l = l.number ≡ count.number_said (take l.digit-index l.digits)
