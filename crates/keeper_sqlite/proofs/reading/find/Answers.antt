use Rattle.std.proofs.Common.{◌≡◌, ◌∷◌, [], ◌∙◌, sym, refl, arith, drop}
use Rattle.std.proofs.lemmas.List.{nil_from_length}
use Rattle.sqlite.specs.Held.{state}
use Rattle.keeper.specs.Rows.{row_at, kind_of}
use Rattle.keeper_sqlite.specs.Kept.{Looked}
use Rattle.keeper_sqlite.specs.Looking.{IsReadFrom}
use Rattle.keeper_sqlite.proofs.Found.{gives_none, gives_some, gives_ok, cons_of}
use Rattle.keeper_sqlite.proofs.Telling.{queries}
use Rattle.keeper_sqlite.proofs.reading.find.Goals as goal

pub returns-in-Err-clause-rows : goal.returns-in-Err-clause-rows
returns-in-Err-clause-rows g c = queries (state g.S.Store c.args.conn.now) (state g.S.Store c.select_row.new.conn) _ c.select_row.ensures.told c.select_row.ensures.kept (λ now rows h. tt)

pub returns-in-empty-clause-rows : goal.returns-in-empty-clause-rows
returns-in-empty-clause-rows g c = queries (state g.S.Store c.args.conn.now) (state g.S.Store c.select_row.new.conn) _ c.select_row.ensures.told c.select_row.ensures.kept (λ now rows h.
    let looked : Looked h.entries (kind_of c.args.table) c.args.desk c.args.reference.now c.in-Ok.rows.items = rw (c.kind_of.ensures, c.as_slice.ensures.bytes) at (c.in-Ok.ensures.rows now h.entries h.holds) in
    let nothing : c.in-Ok.rows.items ≡ [] = sym c.as_slice-2.ensures.value ∙ nil_from_length c.as_slice-2.result.now (omega (arith, c.in-empty.len_below)) in
    gives_none h.entries rows c.args.table c.args.desk c.args.reference.now c.in-Ok.rows.items h.stores h.unique looked (row_at c.args.table c.args.desk c.args.reference.now rows) refl nothing)

pub returns-clause-rows : goal.returns-clause-rows
returns-clause-rows g c = queries (state g.S.Store c.args.conn.now) (state g.S.Store c.select_row.new.conn) _ c.select_row.ensures.told c.select_row.ensures.kept (λ now rows h.
    let looked : Looked h.entries (kind_of c.args.table) c.args.desk c.args.reference.now c.in-Ok.rows.items = rw (c.kind_of.ensures, c.as_slice.ensures.bytes) at (c.in-Ok.ensures.rows now h.entries h.holds) in
    let given = c.row-item.result in
    let first : c.in-Ok.rows.items ≡ given ∷ drop 1 c.as_slice-2.result.now = sym c.as_slice-2.ensures.value ∙ cons_of c.as_slice-2.result.now given (omega (arith, c.in-len1-up.len_at_least)) ∙ (λ i. sym c.row-item.is i ∷ drop 1 c.as_slice-2.result.now) in
    gives_ok (row_at c.args.table c.args.desk c.args.reference.now rows) (IsReadFrom c.args.table c.args.desk c.args.reference.now given) c.found_row.result c.found_row.ensures.read
    (λ found read. gives_some h.entries rows c.args.table c.args.desk c.args.reference.now c.in-Ok.rows.items h.stores h.unique looked (row_at c.args.table c.args.desk c.args.reference.now rows) refl given (drop 1 c.as_slice-2.result.now) found first read))
