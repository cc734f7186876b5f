use Rattle.std.proofs.Common.{◌-◌, List, ℕ, ◌++◌, take, ap, ◌∙◌, arith}
use Rattle.std.specs.Prelude.{reverse}
use Rattle.terminal_desk.proofs.Rising.{turn_more}
use Rattle.terminal_desk.proofs.chain.turn.Goals as goal

pub down-preserved : goal.down-preserved
down-preserved c = record {
  within = let within = c.down.invariant.within in omega arith;
  so_far = ap (λ (l : List (List ℕ)). l ++ reverse (take (c.down.at - 1) c.args.upward.now)) c.in_ok-push_at.ensures
      ∙ turn_more c.down.chain c.args.upward.now (reverse c.args.upward.now) c.down.at c.down-test.true c.down.invariant.within c.down.invariant.so_far;
}
