use Rattle.keeper.proofs.Places.{lent_at}
use Rattle.keeper.proofs.reading.row_in.Goals as goal

pub returns : goal.returns
returns c = lent_at c.args.rows.now c.args.at c.get.result c.get.ensures.lookup.0 c.get.ensures.lookup.1
