use Rattle.std.proofs.Common.{ap, ◌∙◌}
use Rattle.std.specs.Prelude.{slice_get}
use Rattle.std.specs.List.{All, filter_map}
use Rattle.keeper.specs.Rows.{is_of, rows_of}
use Rattle.keeper.specs.Keeping.{IsDeskRow}
use Rattle.keeper.proofs.Places.{rows_at_places}
use Rattle.keeper.proofs.Readings.{desk_asked, gives_asked, gives_same}
use Rattle.keeper.proofs.reading.copy_desk.Goals as goal

pub returns-clause-given : goal.returns-clause-given
returns-clause-given c = gives_same _ _ (ap (filter_map (slice_get c.args.rows.now)) (c.at_desk.ensures c.args.rows.now c.requires.index) ∙ rows_at_places (is_of c.args.table c.args.desk) c.args.rows.now) c.copies.result c.copies.ensures.given

pub returns-clause-asked : goal.returns-clause-asked
returns-clause-asked c = gives_asked (All (IsDeskRow c.args.table c.args.desk)) (rows_of c.args.table c.args.desk c.args.rows.now) c.copies.result (desk_asked c.args.table c.args.desk c.args.rows.now c.requires.rows) (returns-clause-given c) c.copies.ensures.own
