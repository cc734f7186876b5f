use Rattle.sqlite.specs.Held.{state}
use Rattle.keeper_sqlite.proofs.Telling.{tells, stays_sound}
use Rattle.keeper_sqlite.proofs.store.SqliteKeeperKeeper.of_desk.Goals as goal

pub invariant_of-self : goal.invariant_of-self
invariant_of-self g c =
    record { sound = stays_sound c.args.self.now.known (state g.S.Store c.args.self.now.conn) (state g.S.Store c.of_desk-result.new.conn) _ c.args.self.now.sound c.of_desk-result.ensures.rows }

pub returns-clause-told : goal.returns-clause-told
returns-clause-told g c =
    tells c.args.self.now.known (state g.S.Store c.args.self.now.conn) (state g.S.Store c.of_desk-result.new.conn) _ c.args.self.now.sound c.of_desk-result.ensures.rows
