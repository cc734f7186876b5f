use Rattle.chip_slots.proofs.Recordings.{write_call}
use Rattle.chip_slots.proofs.disk.memory.MemoryDiskChipDisk.write_at.Goals as goal

pub returns-clause-call : goal.returns-clause-call
returns-clause-call c = write_call _ c.write_or_tear.new.self c.answer.new.self c.write_or_tear.ensures.kept c.answer.ensures.rest c.answer.result c.fails-fails.result c.args.at c.args.from.now c.answer.ensures.err c.requires.range c.write_or_tear.ensures.done
