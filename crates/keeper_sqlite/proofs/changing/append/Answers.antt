use Rattle.std.proofs.Common.{◌≡◌, Some, ap, ◌∙◌}
use Rattle.sqlite.specs.Held.{state}
use Rattle.holder_reference.specs.Reference.{holder_part}
use Rattle.keeper.specs.Rows.{kind_of, table_of}
use Rattle.keeper_sqlite.specs.ReadingOrder.{read_stored}
use Rattle.keeper_sqlite.specs.Kept.{HoldsMore}
use Rattle.keeper_sqlite.proofs.Appended.{one_more}
use Rattle.keeper_sqlite.proofs.changing.append.Goals as goal

pub returns-in-Ok-clause-rows : goal.returns-in-Ok-clause-rows
returns-in-Ok-clause-rows g c told rows h absent =
    let old = state g.S.Store c.args.conn.now in
    let new = state g.S.Store c.insert.new.conn in
    let row = c.args.row.now in
    let again : read_stored (table_of row.part) c.as_slice-3.result.now ≡ Some row.part = ap (read_stored (table_of row.part)) c.as_slice-3.ensures ∙ c.in_ok-body.ensures.again in
    let more : HoldsMore h.entries (kind_of (table_of row.part)) row.desk (holder_part row.reference) row.reference c.as_slice-3.result.now new =
    rw (c.kind_of.ensures, c.table.ensures, c.as_slice.ensures.bytes, c.holder-holder.ensures, c.as_slice-2.ensures.bytes) at (c.in-Ok.ensures.rows told h.entries h.holds) in
    one_more old new rows row h c.as_slice-3.result.now absent again more
