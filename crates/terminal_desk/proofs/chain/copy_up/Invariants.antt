use Rattle.std.proofs.Common.{◌≡◌, ◌∷◌, ◌++◌}
use Rattle.std.specs.Prelude.{map}
use Rattle.terminal_desk.specs.Walks.{risen}
use Rattle.terminal_desk.proofs.chain.copy_up.Given as goal

-- what is copied, and what is still above
abbrev pub invariant-up : goal.invariant-up
invariant-up l = l.upward ++ map (λ s. s.certificate) (risen l.cas l.left l.below) ≡ map (λ s. s.certificate) (l.own ∷ risen l.cas l.steps l.own)

abbrev pub decreases-up : goal.decreases-up
decreases-up l = l.left
