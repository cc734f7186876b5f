use Rattle.std.proofs.Common.{◌≡◌, ◌∷◌, [], filter, Some, ap, ◌∙◌}
use Rattle.sqlite.specs.Held.{state}
use Rattle.sqlite_keyed.specs.Lists.{update_where}
use Rattle.keeper.specs.declared.rows.Table.TheVariants.{Own}
use Rattle.keeper.specs.Rows.{kind_of, table_of}
use Rattle.keeper_sqlite.specs.ReadingOrder.{read_stored}
use Rattle.keeper_sqlite.specs.Kept.{Entry, HoldsRows, is_row, with_body}
use Rattle.keeper_sqlite.proofs.Decoding.{found_one}
use Rattle.keeper_sqlite.proofs.Replaced.{one_replaced, still_holding}
use Rattle.keeper_sqlite.proofs.changing.replace.Goals as goal

pub returns-in-Ok-clause-rows : goal.returns-in-Ok-clause-rows
returns-in-Ok-clause-rows g c told rows h may settled is =
    let old = state g.S.Store c.args.conn.now in
    let new = state g.S.Store c.update.new.conn in
    let part = c.args.part.now in
    let body = c.as_slice-2.result.now in
    let again : read_stored (table_of part) body ≡ Some part = ap (read_stored (table_of part)) c.as_slice-2.ensures ∙ c.in_ok-body.ensures.again in
    let one = found_one h.entries rows Own c.args.desk c.args.reference.now may.row h.stores h.unique may.there in
    let put : (e : Entry) → filter (is_row (kind_of Own) c.args.desk c.args.reference.now) h.entries ≡ e ∷ [] → HoldsRows (update_where (is_row (kind_of Own) c.args.desk c.args.reference.now) (with_body body) h.entries) new =
    rw (c.kind_of.ensures, c.as_slice.ensures.bytes) at (c.in-Ok.ensures.rows told h.entries h.holds) in
    one_replaced c.args.desk c.args.reference.now settled old new rows h may body part again is (put one.0 one.1)

pub returns-clause-rows : goal.returns-clause-rows
returns-clause-rows g c told rows h may settled is =
    let old = state g.S.Store c.args.conn.now in
    let new = state g.S.Store c.update.new.conn in
    let one = found_one h.entries rows Own c.args.desk c.args.reference.now may.row h.stores h.unique may.there in
    let put : (e : Entry) → filter (is_row (kind_of Own) c.args.desk c.args.reference.now) h.entries ≡ e ∷ [] → HoldsRows h.entries new =
    rw (c.kind_of.ensures, c.as_slice.ensures.bytes) at (c.in-Err.ensures.rows told h.entries h.holds) in
    still_holding old new rows h (put one.0 one.1)
