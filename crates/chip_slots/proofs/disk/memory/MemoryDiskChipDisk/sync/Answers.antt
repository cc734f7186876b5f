use Rattle.chip_slots.proofs.Recordings.{sync_call}
use Rattle.chip_slots.proofs.disk.memory.MemoryDiskChipDisk.sync.Goals as goal

pub returns-clause-call : goal.returns-clause-call
returns-clause-call c = sync_call _ c.sync_or_fail.new.self c.answer.new.self c.sync_or_fail.ensures.kept c.answer.ensures.rest c.answer.result c.fails-fails.result c.answer.ensures.err c.sync_or_fail.ensures.done
