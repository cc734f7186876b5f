use Rattle.std.proofs.Common.{◌∙◌}
use Rattle.chip_slots.proofs.BigEndian.{big_endian_is}
use Rattle.chip_slots.proofs.record.writing.two_bytes.Goals as goal

pub returns : goal.returns
returns c = c.to_be_bytes.ensures ∙ big_endian_is 2 c.args.number
