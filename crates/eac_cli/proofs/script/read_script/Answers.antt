use Rattle.std.proofs.Common.{arith}
use Rattle.eac_cli.proofs.Reading.{reading_more}
use Rattle.eac_cli.proofs.script.read_script.Goals as goal

pub loop-line-preserved : goal.loop-line-preserved
loop-line-preserved c = record {
  room = omega (arith, c.in-Some.ensures.shorter.1);
  reading = reading_more c.args.chips c.args.bytes.now c.loop-line.rest.now c.in-Some.text.now c.in-Some.after.now c.loop-line.last c.in-Some.line c.loop-line.script.setup c.take.new.script.setup c.loop-line.today c.take.new.today c.loop-line.script.events c.take.new.script.events c.loop-line.invariant.reading c.in-Some.ensures.next c.in_default-take.ensures.taken;
}
