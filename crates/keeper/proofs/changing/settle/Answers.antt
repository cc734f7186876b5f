use Rattle.keeper.proofs.SettledRows.{settles_unique, settles_storable}
use Rattle.keeper.proofs.Indexes.{settles_index}
use Rattle.keeper.proofs.changing.settle.Goals as goal

pub returns-clause-unique : goal.returns-clause-unique
returns-clause-unique c = settles_unique _ _ _ _ _ _ c.requires.unique c.try_settle.ensures.told

pub returns-clause-storable : goal.returns-clause-storable
returns-clause-storable c = settles_storable _ _ _ _ _ _ c.requires.settled c.requires.rows c.try_settle.ensures.told

pub returns-clause-index : goal.returns-clause-index
returns-clause-index c = settles_index _ _ _ _ _ _ _ c.requires.index c.try_settle.ensures.told
