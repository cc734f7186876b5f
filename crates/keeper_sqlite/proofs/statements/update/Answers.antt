use Rattle.std.proofs.Common.{arith}
use Rattle.sqlite.specs.Held.{state}
use Rattle.keeper_sqlite.specs.Kept.{update_text}
use Rattle.keeper_sqlite.proofs.Keeping.{opened_before}
use Rattle.keeper_sqlite.proofs.Settles.{given_to}
use Rattle.keeper_sqlite.proofs.Updates.{updates}
use Rattle.keeper_sqlite.proofs.statements.update.Goals as goal

pub returns-clause-told : goal.returns-clause-told
returns-clause-told g c told =
    let old = state g.S.Store c.args.conn.now in
    let new = state g.S.Store c.execute.new.self in
    let ran = rw (c.params-to_sql.ensures, c.params-to_sql-2.ensures, c.params-to_sql-3.ensures, c.params-to_sql-4.ensures) at (c.execute.ensures.runs told.0) in
    (omega (arith, c.execute.ensures.survives.clean, told.0), opened_before old new update_text (given_to c.args.kind c.args.desk c.args.reference.now c.args.body.now) c.execute.result ran told.1)

pub returns-clause-rows : goal.returns-clause-rows
returns-clause-rows g c told entries holds one only =
    let old = state g.S.Store c.args.conn.now in
    let new = state g.S.Store c.execute.new.self in
    let ran = rw (c.params-to_sql.ensures, c.params-to_sql-2.ensures, c.params-to_sql-3.ensures, c.params-to_sql-4.ensures) at (c.execute.ensures.runs told.0) in
    updates old new c.args.kind c.args.desk c.args.reference.now c.args.body.now c.execute.result ran told.1 entries holds one only
