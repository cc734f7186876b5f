use Rattle.std.proofs.Common.{length, ap, ◌∙◌}
use Rattle.keeper.specs.Rows.{is_of}
use Rattle.keeper.proofs.Places.{as_many_places}
use Rattle.keeper.proofs.reading.count_of.Goals as goal

pub returns : goal.returns
returns c = ap length (c.at_desk.ensures c.args.rows.now c.requires) ∙ as_many_places (is_of c.args.table c.args.desk) c.args.rows.now
