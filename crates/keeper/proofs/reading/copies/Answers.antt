use Rattle.keeper.proofs.Places.{gather_more}
use Rattle.keeper.proofs.reading.copies.Goals as goal

pub loop-place-preserved : goal.loop-place-preserved
loop-place-preserved c = gather_more c.args.rows.now c.args.places.now c.loop-place.place-index c.loop-place.found c.push_row.new.found c.loop-place-test.true c.loop-place.invariant c.in_ok-push_row.ensures.pushed
