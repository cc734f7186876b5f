use Rattle.std.proofs.Common.{arith}
use Rattle.sqlite.specs.Held.{state}
use Rattle.keeper_sqlite.specs.Kept.{count_text}
use Rattle.keeper_sqlite.proofs.Lookups.{was_open, stays, counted}
use Rattle.keeper_sqlite.proofs.Counts.{count_plain}
use Rattle.keeper_sqlite.proofs.DeskRows.{asked}
use Rattle.keeper_sqlite.proofs.statements.select_count.Goals as goal

pub returns-clause-told : goal.returns-clause-told
returns-clause-told g c told =
    let old = state g.S.Store c.args.conn.now in
    let new = state g.S.Store c.query_all.new.self in
    (omega (arith, c.query_all.ensures.survives.clean, told.0), was_open old new _ _ c.query_all.result (c.query_all.ensures.ok told.0) (c.query_all.ensures.err told.0) told.1)

pub returns-clause-kept : goal.returns-clause-kept
returns-clause-kept g c told entries holds =
    let old = state g.S.Store c.args.conn.now in
    let new = state g.S.Store c.query_all.new.self in
    stays old new count_text (asked c.args.kind c.args.desk) count_plain c.query_all.result
    (rw (c.params-to_sql.ensures, c.params-to_sql-2.ensures) at (c.query_all.ensures.ok told.0))
    (rw (c.params-to_sql.ensures, c.params-to_sql-2.ensures) at (c.query_all.ensures.err told.0))
    told.1 entries holds

pub returns-clause-rows : goal.returns-clause-rows
returns-clause-rows g c told entries holds =
    counted (state g.S.Store c.args.conn.now) (state g.S.Store c.query_all.new.self) c.args.kind c.args.desk c.query_all.result entries holds
    (rw (c.params-to_sql.ensures, c.params-to_sql-2.ensures) at (c.query_all.ensures.ok told.0))
