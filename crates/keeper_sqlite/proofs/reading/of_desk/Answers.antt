use Rattle.std.proofs.Common.{◌≡◌, ◌∙◌, map, filter, Some}
use Rattle.sqlite.specs.Held.{state}
use Rattle.keeper.specs.Rows.{rows_of, kind_of}
use Rattle.keeper_sqlite.specs.Kept.{shown, is_at}
use Rattle.keeper_sqlite.specs.Looking.{row_of}
use Rattle.keeper_sqlite.proofs.Found.{gives_ok}
use Rattle.keeper_sqlite.proofs.Listing.{of_desk_back}
use Rattle.keeper_sqlite.proofs.Telling.{queries}
use Rattle.keeper_sqlite.proofs.reading.of_desk.Goals as goal

pub returns-in-Ok-clause-rows : goal.returns-in-Ok-clause-rows
returns-in-Ok-clause-rows g c = queries (state g.S.Store c.args.conn.now) (state g.S.Store c.select_desk.new.conn) _ c.select_desk.ensures.told c.select_desk.ensures.kept (λ now rows h.
    let given = c.as_slice.result.now in
    let listed : given ≡ map shown (filter (is_at (kind_of c.args.table) c.args.desk) h.entries) = c.as_slice.ensures.value ∙ rw c.kind_of.ensures at (c.in-Ok.ensures.rows now h.entries h.holds) in
    gives_ok (rows_of c.args.table c.args.desk rows) (λ found. map (row_of c.args.table c.args.desk) given ≡ map (λ r. Some r) found) c.rows_from.result c.rows_from.ensures.read
    (λ found read. of_desk_back h.entries rows c.args.table c.args.desk h.stores given found listed read))

pub returns-in-Err-clause-rows : goal.returns-in-Err-clause-rows
returns-in-Err-clause-rows g c = queries (state g.S.Store c.args.conn.now) (state g.S.Store c.select_desk.new.conn) _ c.select_desk.ensures.told c.select_desk.ensures.kept (λ now rows h. tt)
