use Rattle.eac_net.proofs.Postings.{fetch_steps}
use Rattle.eac_net.proofs.sending.fetch.Goals as goal

pub returns-clause-steps : goal.returns-clause-steps
returns-clause-steps c setup o fits was = fetch_steps setup c.args.world.now c.conclude.new.world o c.args.party c.args.desk c.asked-happened.result c.conclude.result c.args.line.now c.conclude.new.line c.conclude.ensures c.asked-happened.ensures fits was
