use Rattle.std.proofs.Common.{◌≡◌, Result, Ok, Err, IsErrAnd, ap, arith, length}
use Rattle.sqlite.specs.Held.{state}
use Rattle.keeper.specs.Rows.{table_of, kept_row, rows_beside}
use Rattle.keeper_sqlite.specs.Holding.{Leads}
use Rattle.keeper_sqlite.proofs.Changes.{found_twice, none_found, refused_after, full_after, room_after, adds_leads}
use Rattle.keeper_sqlite.proofs.changing.add.Goals as goal

said_error : {U E : Type 0} (r : Result U E) (e : E) → IsErrAnd r (λ x. x ≡ e) → r ≡ Err e
said_error (Ok u) e h = absurd h
said_error (Err x) e h = ap (λ y. Err y) h

pub returns-in-Some-clause-rows : goal.returns-in-Some-clause-rows
returns-in-Some-clause-rows g c =
    let old = state g.S.Store c.args.conn.now in
    let looked = state g.S.Store c.find.new.conn in
    let row = c.args.row.now in
    let found : Leads old looked (λ x y. (y ≡ x) × (c.in_ok-kept.field-0 ≡ kept_row row x)) = rw c.table.ensures at c.in_ok-kept.ensures.rows in
    found_twice old looked (table_of row.part) row.desk row.reference c.in_ok-kept.field-0 _ found c.in-Some.is

pub returns-in_err-number-clause-rows : goal.returns-in_err-number-clause-rows
returns-in_err-number-clause-rows g c =
    rw (said_error c.from_residual-in_err-number.result _ c.from_residual-in_err-number.ensures.1)
    (refused_after (Unit {0}) (state g.S.Store c.args.conn.now) (state g.S.Store c.find.new.conn) (state g.S.Store c.count.new.conn) _ _ _ c.args.row.now c.in_ok-kept.ensures.rows c.in_err-number.ensures.rows c.in_err-number.ensures.asked)

pub returns-then-number-ge-MOST_ROWS-clause-rows : goal.returns-then-number-ge-MOST_ROWS-clause-rows
returns-then-number-ge-MOST_ROWS-clause-rows g c =
    let old = state g.S.Store c.args.conn.now in
    let looked = state g.S.Store c.find.new.conn in
    let new = state g.S.Store c.count.new.conn in
    let row = c.args.row.now in
    let found : Leads old looked (λ x y. (y ≡ x) × (c.in_ok-kept.field-0 ≡ kept_row row x)) = rw c.table.ensures at c.in_ok-kept.ensures.rows in
    let counted : Leads looked new (λ x y. (y ≡ x) × (c.in_ok-number.number ≡ length (rows_beside row x))) = rw c.table-2.ensures at c.in_ok-number.ensures.rows in
    full_after old looked new c.in_ok-number.number row (none_found old looked (table_of row.part) row.desk row.reference c.in_ok-kept.field-0 found c.in_default.is) counted (omega (arith, c.if-number-ge-MOST_ROWS.true))

pub returns-clause-rows : goal.returns-clause-rows
returns-clause-rows g c =
    let old = state g.S.Store c.args.conn.now in
    let looked = state g.S.Store c.find.new.conn in
    let numbered = state g.S.Store c.count.new.conn in
    let new = state g.S.Store c.append.new.conn in
    let row = c.args.row.now in
    let found : Leads old looked (λ x y. (y ≡ x) × (c.in_ok-kept.field-0 ≡ kept_row row x)) = rw c.table.ensures at c.in_ok-kept.ensures.rows in
    let counted : Leads looked numbered (λ x y. (y ≡ x) × (c.in_ok-number.number ≡ length (rows_beside row x))) = rw c.table-2.ensures at c.in_ok-number.ensures.rows in
    adds_leads _ old looked numbered new row c.append.result (none_found old looked (table_of row.part) row.desk row.reference c.in_ok-kept.field-0 found c.in_default.is)
    (room_after looked numbered c.in_ok-number.number row counted (omega (arith, c.if-number-ge-MOST_ROWS.false))) c.append.ensures.told c.append.ensures.rows c.append.ensures.refused
