use Rattle.sqlite.specs.Held.{state}
use Rattle.keeper_sqlite.proofs.Creates.{holds_none}
use Rattle.keeper_sqlite.proofs.statements.create.Goals as goal

pub returns-clause-rows : goal.returns-clause-rows
returns-clause-rows g c clean has mode =
    holds_none (state g.S.Store c.args.conn.now) (state g.S.Store c.execute.new.self) c.execute.result has mode (c.execute.ensures.runs clean)
