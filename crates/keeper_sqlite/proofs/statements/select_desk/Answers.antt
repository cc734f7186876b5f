use Rattle.std.proofs.Common.{arith}
use Rattle.sqlite.specs.Held.{state}
use Rattle.keeper_sqlite.specs.Kept.{of_desk_text}
use Rattle.keeper_sqlite.proofs.Lookups.{was_open, stays, desk_listed}
use Rattle.keeper_sqlite.proofs.DeskRows.{desk_plain, asked}
use Rattle.keeper_sqlite.proofs.statements.select_desk.Goals as goal

pub returns-clause-told : goal.returns-clause-told
returns-clause-told g c told =
    let old = state g.S.Store c.args.conn.now in
    let new = state g.S.Store c.query_all.new.self in
    (omega (arith, c.query_all.ensures.survives.clean, told.0), was_open old new _ _ c.query_all.result (c.query_all.ensures.ok told.0) (c.query_all.ensures.err told.0) told.1)

pub returns-clause-kept : goal.returns-clause-kept
returns-clause-kept g c told entries holds =
    let old = state g.S.Store c.args.conn.now in
    let new = state g.S.Store c.query_all.new.self in
    stays old new of_desk_text (asked c.args.kind c.args.desk) desk_plain c.query_all.result
    (rw (c.params-to_sql.ensures, c.params-to_sql-2.ensures) at (c.query_all.ensures.ok told.0))
    (rw (c.params-to_sql.ensures, c.params-to_sql-2.ensures) at (c.query_all.ensures.err told.0))
    told.1 entries holds

pub returns-clause-rows : goal.returns-clause-rows
returns-clause-rows g c told entries holds =
    desk_listed (state g.S.Store c.args.conn.now) (state g.S.Store c.query_all.new.self) c.args.kind c.args.desk c.query_all.result entries holds
    (rw (c.params-to_sql.ensures, c.params-to_sql-2.ensures) at (c.query_all.ensures.ok told.0))
