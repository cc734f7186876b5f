-- A gate as the code has it.
use Rattle.std.specs.Prelude.{Bool, true, false}
use Rattle.chip_slots.specs.declared.chip.gates.Gate.{Gate}
use Rattle.chip_slots.specs.declared.chip.gates.Gate.TheVariants as gates

abbrev pub seen_gate : Gate → Bool
seen_gate gates.Open = true
seen_gate gates.Closed = false
