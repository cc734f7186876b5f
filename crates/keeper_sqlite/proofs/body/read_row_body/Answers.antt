use Rattle.keeper_sqlite.proofs.Stands.{found, only}
use Rattle.keeper_sqlite.proofs.body.read_row_body.Goals as goal

pub returns-clause-found : goal.returns-clause-found
returns-clause-found c = found c.args.table c.args.body.now c.read_stored.result c.are_bytes.ensures c.read_stored.ensures

pub returns-clause-only : goal.returns-clause-only
returns-clause-only c part is = only c.args.table c.args.body.now c.read_stored.result part is c.read_stored.ensures
