use Rattle.std.proofs.Common.{◌≡◌, ℕ, ◌+◌, ◌-◌, length}
use Rattle.eac_net.specs.Counts.{count_at}
use Rattle.eac_net.proofs.counts.ImportCounts.reserve.Given as goal

abbrev pub invariant-room : goal.invariant-room
invariant-room l = (other : ℕ) → count_at l.self-inside.counts.items other ≡ count_at l.initial.self-inside.counts.items other

abbrev pub decreases-room : goal.decreases-room
decreases-room l = l.chip + 1 - length l.self-inside.counts.items
