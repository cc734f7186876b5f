use Rattle.std.proofs.Common.{◌≡◌, ℕ, ◌+◌, ◌-◌, ◌<◌, drop, length, subst, arith}
use Rattle.terminal_desk.specs.Walks.{FindsFirst}
use Rattle.terminal_desk.proofs.FirstRows.{first_more}
use Rattle.terminal_desk.proofs.places.Places.of.Goals as goal

pub rows-preserved : goal.rows-preserved
rows-preserved c =
    let some = c.rows-test.true in
    let most = c.rows.invariant.within in
    let again : c.rows.at ≡ c.rows.at - 1 + 1 = omega arith in
    let within : c.rows.at - 1 < length c.args.rows.now = omega arith in
    record {
      within = omega arith;
      first = first_more c.args.rows.now (c.rows.at - 1) c.index-rows-at.result c.rows.places.places c.enter.new.self.places within c.index-rows-at.is c.in_ok-enter.ensures
          (subst (λ (n : ℕ). FindsFirst c.args.rows.now c.rows.places.places (drop n c.args.rows.now)) again c.rows.invariant.first);
    }
