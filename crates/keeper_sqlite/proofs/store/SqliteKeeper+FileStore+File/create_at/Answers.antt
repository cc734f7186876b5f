use Rattle.sqlite.specs.Files.{file_state}
use Rattle.keeper_sqlite.proofs.Opened.{new_sound, told_none}
use Rattle.keeper_sqlite.proofs.store.SqliteKeeper+FileStore+File.create_at.Goals as goal

pub invariant_of-result : goal.invariant_of-result
invariant_of-result c =
    record { sound = new_sound (file_state c.create.new.conn) (λ clean. c.in-Ok.ensures.rows clean (c.in_ok-conn.ensures.empty (c.in-Ok.ensures.clean clean)) c.in_ok-conn.ensures.autocommit) }

pub returns-in-Ok-clause-told : goal.returns-in-Ok-clause-told
returns-in-Ok-clause-told c =
    told_none (file_state c.create.new.conn) (λ clean. c.in-Ok.ensures.rows clean (c.in_ok-conn.ensures.empty (c.in-Ok.ensures.clean clean)) c.in_ok-conn.ensures.autocommit)
