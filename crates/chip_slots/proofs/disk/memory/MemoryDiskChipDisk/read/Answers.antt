use Rattle.chip_slots.proofs.Recordings.{read_call}
use Rattle.chip_slots.proofs.disk.memory.MemoryDiskChipDisk.read.Goals as goal

pub returns-clause-call : goal.returns-clause-call
returns-clause-call c = read_call _ c.idle.new.self c.answer.new.self c.idle.ensures.kept c.answer.ensures.rest c.answer.result c.idle.ensures.done
