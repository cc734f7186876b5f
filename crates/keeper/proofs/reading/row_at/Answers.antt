use Rattle.std.proofs.Common.{sym, ◌∙◌}
use Rattle.keeper.specs.Rows.{has_key}
use Rattle.keeper.proofs.Places.{found_at, found_nowhere}
use Rattle.keeper.proofs.Readings.{lent_asked}
use Rattle.keeper.proofs.reading.row_at.Goals as goal

pub returns-in-Some-clause-found : goal.returns-in-Some-clause-found
returns-in-Some-clause-found c = c.row_in.ensures ∙ found_at (has_key c.args.table c.args.desk c.args.reference.now) c.args.rows.now c.in-Some.at (sym c.in-Some.is ∙ c.place.ensures c.args.rows.now c.requires.index)

pub returns-in-Some-clause-asked : goal.returns-in-Some-clause-asked
returns-in-Some-clause-asked c = lent_asked c.args.table c.args.desk c.args.reference.now c.args.rows.now c.row_in.result c.requires.rows (returns-in-Some-clause-found c)

pub returns-in-None-clause-found : goal.returns-in-None-clause-found
returns-in-None-clause-found c = found_nowhere (has_key c.args.table c.args.desk c.args.reference.now) c.args.rows.now (sym c.in-None.is ∙ c.place.ensures c.args.rows.now c.requires.index)
