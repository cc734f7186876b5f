use Rattle.holder_reference.proofs.Counting.{adds_one, none_exactly}
use Rattle.holder_reference.proofs.sequence.next_sequence.Goals as goal

pub returns-clause-adds_one : goal.returns-clause-adds_one
returns-clause-adds_one c = adds_one c.args.sequence.now c.counted_on.result c.counted_on.ensures.exact

pub returns-clause-none : goal.returns-clause-none
returns-clause-none c = none_exactly c.args.sequence.now c.counted_on.result c.counted_on.ensures.legal c.counted_on.ensures.exact
