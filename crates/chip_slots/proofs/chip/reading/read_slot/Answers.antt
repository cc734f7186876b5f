use Rattle.std.proofs.Common.{ℕ}
use Rattle.std.proofs.lemmas.List.{length-replicate}
use Rattle.chip_slots.specs.Found.{seen}
use Rattle.chip_slots.proofs.Slots.{slot_seen}
use Rattle.chip_slots.proofs.chip.reading.read_slot.Goals as goal

pub returns-in-Ok-clause-says : goal.returns-in-Ok-clause-says
returns-in-Ok-clause-says g c = λ tells. slot_seen c.args.slots c.args.slot c.read.new.into _ (seen c.said_by.result) _ (length-replicate {A = ℕ} 8192 0) (c.in-Ok.ensures.bytes tells) c.said_by.ensures
