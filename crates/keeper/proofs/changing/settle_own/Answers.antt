use Rattle.keeper.proofs.SettledRows.{settled_at, settled_nowhere}
use Rattle.keeper.proofs.changing.settle_own.Goals as goal

pub returns-in-Some : goal.returns-in-Some
returns-in-Some c = settled_at c.args.desk c.args.reference.now c.args.settled c.args.rows.now c.place.result c.in-Some.at c.settle.new.self c.index-rows-at.result c.requires.unique (c.place.ensures c.args.rows.now c.requires.index) c.in-Some.is c.settle.ensures

pub returns-in_default : goal.returns-in_default
returns-in_default c = settled_nowhere c.args.desk c.args.reference.now c.args.settled c.args.rows.now c.place.result (c.place.ensures c.args.rows.now c.requires.index) c.in_default.is
