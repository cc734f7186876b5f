use Rattle.std.proofs.Common.{rules}
use Rattle.eac_base.specs.Text.{hex_bytes}
use Rattle.plain_text.proofs.Hexes.{hex_more}
use Rattle.plain_text.proofs.hexadecimal.read_bytes.Goals as goal

pub loop-high-preserved : goal.loop-high-preserved
loop-high-preserved c = hex_more (hex_bytes c.args.hex.now) c.loop-high.bytes c.push_all.new.self c.loop-high.rest.now c.in-Some.after.now c.in-Some.high c.in-Some.low c.in-Some-byte_of.byte c.loop-high.invariant c.in-Some.ensures c.in-Some-byte_of.ensures (search rules)
