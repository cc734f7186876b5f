use Rattle.plain_text.proofs.Bytes.{no_byte}
use Rattle.plain_text.proofs.hexadecimal.read_byte.Goals as goal

pub returns-then-not-is_empty : goal.returns-then-not-is_empty
returns-then-not-is_empty c = no_byte c.args.word.now c.in_ok-high.high c.in_ok-high.low c.in_ok-high.more.now c.in_ok-high.ensures c.if-not-is_empty.ensures
