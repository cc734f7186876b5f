use Rattle.std.proofs.Common.{ap, ◌∙◌}
use Rattle.std.specs.Prelude.{slice_get}
use Rattle.std.specs.List.{All, filter_map}
use Rattle.keeper.specs.Rows.{holder_rows}
use Rattle.keeper.specs.Steps.{is_held}
use Rattle.keeper.specs.Keeping.{IsHolderRow}
use Rattle.keeper.proofs.Places.{rows_at_places}
use Rattle.keeper.proofs.Readings.{both_filters, holder_asked, gives_asked, gives_same}
use Rattle.keeper.proofs.reading.copy_holder.Goals as goal

pub returns-clause-given : goal.returns-clause-given
returns-clause-given c =
    gives_same _ _ (ap (filter_map (slice_get c.args.rows.now)) (c.of_holder.ensures c.args.rows.now c.requires.index) ∙ rows_at_places (is_held c.args.table c.args.desk c.args.holder.now) c.args.rows.now ∙ both_filters c.args.table c.args.desk c.args.holder.now c.args.rows.now)
    c.copies.result c.copies.ensures.given

pub returns-clause-asked : goal.returns-clause-asked
returns-clause-asked c =
    gives_asked (All (IsHolderRow c.args.table c.args.desk c.args.holder.now)) (holder_rows c.args.table c.args.desk c.args.holder.now c.args.rows.now) c.copies.result
    (holder_asked c.args.table c.args.desk c.args.holder.now c.args.rows.now c.requires.rows) (returns-clause-given c) c.copies.ensures.own
