use Rattle.std.proofs.Common.{sym, ◌∙◌}
use Rattle.sqlite.specs.Held.{state}
use Rattle.keeper.specs.declared.rows.Table.TheVariants.{Own}
use Rattle.keeper_sqlite.proofs.Changes.{found_twice, none_found, settled_twice, settles_leads}
use Rattle.keeper_sqlite.proofs.changing.settle.Goals as goal

pub returns-in_default-clause-rows : goal.returns-in_default-clause-rows
returns-in_default-clause-rows g c =
    none_found (state g.S.Store c.args.conn.now) (state g.S.Store c.find.new.conn) Own c.args.desk c.args.reference.now c.in_ok-row.field-0 c.in_ok-row.ensures.rows c.in_default.is

pub returns-then-is_settled-clause-rows : goal.returns-then-is_settled-clause-rows
returns-then-is_settled-clause-rows g c =
    settled_twice (state g.S.Store c.args.conn.now) (state g.S.Store c.find.new.conn) c.args.desk c.args.reference.now c.in_ok-row.field-0 c.in-Some.row c.in_ok-row.ensures.rows c.in-Some.is (sym c.is_settled.ensures ∙ c.if-is_settled.true)

pub returns-clause-rows : goal.returns-clause-rows
returns-clause-rows g c =
    let old = state g.S.Store c.args.conn.now in
    let looked = state g.S.Store c.find.new.conn in
    let new = state g.S.Store c.replace.new.conn in
    settles_leads _ old looked new c.args.desk c.args.reference.now c.args.settled.now c.in-Some.row c.in_ok-part.part c.replace.result
    (found_twice old looked Own c.args.desk c.args.reference.now c.in_ok-row.field-0 c.in-Some.row c.in_ok-row.ensures.rows c.in-Some.is)
    (sym c.is_settled.ensures ∙ c.if-is_settled.false) c.in_ok-part.ensures c.replace.ensures.told c.replace.ensures.rows c.replace.ensures.refused
