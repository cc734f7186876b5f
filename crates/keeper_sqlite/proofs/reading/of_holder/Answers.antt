use Rattle.std.proofs.Common.{◌≡◌, ◌∙◌, map, filter}
use Rattle.sqlite.specs.Held.{state}
use Rattle.keeper.specs.Rows.{kind_of}
use Rattle.keeper_sqlite.specs.Kept.{shown, is_for}
use Rattle.keeper_sqlite.proofs.Listing.{of_holder_back}
use Rattle.keeper_sqlite.proofs.Telling.{queries}
use Rattle.keeper_sqlite.proofs.reading.of_holder.Goals as goal

pub returns-in-Err-clause-rows : goal.returns-in-Err-clause-rows
returns-in-Err-clause-rows g c = queries (state g.S.Store c.args.conn.now) (state g.S.Store c.select_holder.new.conn) _ c.select_holder.ensures.told c.select_holder.ensures.kept (λ now rows h. tt)

pub returns-then-are_of_holder-clause-rows : goal.returns-then-are_of_holder-clause-rows
returns-then-are_of_holder-clause-rows g c = queries (state g.S.Store c.args.conn.now) (state g.S.Store c.select_holder.new.conn) _ c.select_holder.ensures.told c.select_holder.ensures.kept (λ now rows h.
    let given = c.as_slice-2.result.now in
    let listed : given ≡ map shown (filter (is_for (kind_of c.args.table) c.args.desk c.args.holder.now) h.entries) = c.as_slice-2.ensures.value ∙ rw (c.kind_of.ensures, c.as_slice.ensures.bytes) at (c.in-Ok.ensures.rows now h.entries h.holds) in
    of_holder_back h.entries rows c.args.table c.args.desk h.stores c.args.holder.now given c.in_ok-found.found listed c.in_ok-found.ensures.read)
