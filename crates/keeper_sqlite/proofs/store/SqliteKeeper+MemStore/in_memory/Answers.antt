use Rattle.sqlite.specs.Held.{state}
use Rattle.sqlite.specs.Steps.{over_memory}
use Rattle.sqlite.proofs.Callers.{memory_is_clean}
use Rattle.keeper_sqlite.proofs.Opened.{empty_told, stays_open}
use Rattle.keeper_sqlite.proofs.store.«SqliteKeeper+MemStore».in_memory.Goals as goal

pub returns-in-Ok-create-clause-told : goal.returns-in-Ok-create-clause-told
returns-in-Ok-create-clause-told c =
    let clean = memory_is_clean c.create.new.conn in
    empty_told (state over_memory c.create.new.conn) (c.in-Ok-create.ensures.rows clean c.in-Ok.ensures.empty.2 c.in-Ok.ensures.fresh.autocommit) clean
    (stays_open _ (c.in-Ok-create.ensures.closes clean c.in-Ok.ensures.empty.0.is_open))
