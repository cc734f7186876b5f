use Rattle.eac_net.proofs.Postings.{send_steps}
use Rattle.eac_net.proofs.sending.send.Goals as goal

pub returns-clause-steps : goal.returns-clause-steps
returns-clause-steps c setup o fits was = send_steps setup c.args.world.now c.conclude.new.world o c.args.from c.args.to c.args.bytes.now c.copied-happened.result c.conclude.result c.args.line.now c.conclude.new.line c.conclude.ensures c.copied-happened.ensures fits was
