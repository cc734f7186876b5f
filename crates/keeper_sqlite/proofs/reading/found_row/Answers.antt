use Rattle.keeper_sqlite.proofs.Found.{key_asked}
use Rattle.keeper_sqlite.proofs.reading.found_row.Goals as goal

pub returns-clause-asked : goal.returns-clause-asked
returns-clause-asked c = (key_asked c.args.table (record { desk = c.args.desk; reference = c.args.reference.now; part = c.in_ok-part.part }) c.in_ok-part.ensures.table, c.in_ok-part.ensures.storable)
