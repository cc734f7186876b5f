use Rattle.keeper_sqlite.proofs.Found.{of_asked}
use Rattle.keeper_sqlite.proofs.reading.row_from.Goals as goal

pub returns-clause-asked : goal.returns-clause-asked
returns-clause-asked c = (of_asked c.args.table (record { desk = c.args.desk; reference = c.in-Ok.reference; part = c.in_ok-part.part }) c.in_ok-part.ensures.table, c.in_ok-part.ensures.storable)
