use Rattle.chip_slots.proofs.RecordTexts.{record_front}
use Rattle.chip_slots.proofs.laws.records_are_read.Goals as goal

pub returns : goal.returns
returns c = record_front
