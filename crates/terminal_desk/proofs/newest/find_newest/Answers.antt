use Rattle.std.proofs.Common.{◌≡◌, ℕ, ◌+◌, ◌-◌, ◌<◌, drop, length, subst, arith}
use Rattle.terminal_desk.specs.Chain.{own_certificates}
use Rattle.terminal_desk.specs.Walks.{IsNewest}
use Rattle.terminal_desk.proofs.NewestOnes.{newest_more}
use Rattle.terminal_desk.proofs.newest.find_newest.Goals as goal

pub rows-preserved : goal.rows-preserved
rows-preserved c =
    let some = c.rows-test.true in
    let most = c.rows.invariant.within in
    let again : c.rows.at ≡ c.rows.at - 1 + 1 = omega arith in
    let within : c.rows.at - 1 < length c.args.own.now = omega arith in
    record {
      within = omega arith;
      lost = c.newer_row-best.ensures.lost;
      all = c.newer_row-best.ensures.all;
      newest = newest_more c.args.cars.now c.args.cas.now c.args.own.now (c.rows.at - 1) c.index-own-at.result c.newer_row-best.result within c.index-own-at.is
          (c.newer_row-best.ensures.newest (own_certificates (drop (c.rows.at - 1 + 1) c.args.own.now)) (subst (λ (n : ℕ). IsNewest c.args.cars.now c.args.cas.now (own_certificates (drop n c.args.own.now)) c.rows.best) again c.rows.invariant.newest));
    }
