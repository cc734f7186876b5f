use Rattle.terminal_desk.specs.Walks.{IsWalked, unmet}
use Rattle.terminal_desk.proofs.climbing.steps_up.Given as goal

abbrev pub invariant-walk : goal.invariant-walk
invariant-walk l = IsWalked l.cars l.cas l.own l.met l.top.place l.top.settled.now l.steps

abbrev pub decreases-walk : goal.decreases-walk
decreases-walk l = unmet l.met
