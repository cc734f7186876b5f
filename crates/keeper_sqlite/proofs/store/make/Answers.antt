use Rattle.std.proofs.Common.{refl}
use Rattle.sqlite.specs.Files.{file_state}
use Rattle.keeper_sqlite.proofs.Fresh.{no_table}
use Rattle.keeper_sqlite.proofs.store.make.Goals as goal

pub returns-in-Ok-clause-empty : goal.returns-in-Ok-clause-empty
returns-in-Ok-clause-empty c clean =
    let opened = c.in-Ok.ensures.opened clean in
    no_table _ (file_state c.in-Ok.conn) refl (c.in-Ok.ensures.found clean) opened.0 opened.1
