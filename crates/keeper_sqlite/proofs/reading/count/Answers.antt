use Rattle.std.proofs.Common.{◌≡◌, ◌∷◌, [], ◌∙◌, filter, length}
use Rattle.sqlite.specs.Held.{state}
use Rattle.sqlite_sql.specs.Aggregate.{count}
use Rattle.keeper.specs.Rows.{rows_of, kind_of}
use Rattle.keeper_sqlite.specs.Kept.{is_at}
use Rattle.keeper_sqlite.proofs.Found.{gives_ok}
use Rattle.keeper_sqlite.proofs.Listing.{count_back}
use Rattle.keeper_sqlite.proofs.Telling.{queries}
use Rattle.keeper_sqlite.proofs.reading.count.Goals as goal

pub returns-in-Ok-clause-rows : goal.returns-in-Ok-clause-rows
returns-in-Ok-clause-rows g c = queries (state g.S.Store c.args.conn.now) (state g.S.Store c.select_count.new.conn) _ c.select_count.ensures.told c.select_count.ensures.kept (λ now rows h.
    let given = c.as_slice.result.now in
    let many = length (filter (is_at (kind_of c.args.table) c.args.desk) h.entries) in
    let counted : given ≡ (count many ∷ []) ∷ [] = c.as_slice.ensures.value ∙ rw c.kind_of.ensures at (c.in-Ok.ensures.rows now h.entries h.holds) in
    gives_ok (length (rows_of c.args.table c.args.desk rows)) _ c.count_from.result c.count_from.ensures.read
    (λ n read. read many counted ∙ count_back h.entries rows c.args.table c.args.desk h.stores))

pub returns-in-Err-clause-rows : goal.returns-in-Err-clause-rows
returns-in-Err-clause-rows g c = queries (state g.S.Store c.args.conn.now) (state g.S.Store c.select_count.new.conn) _ c.select_count.ensures.told c.select_count.ensures.kept (λ now rows h. tt)
