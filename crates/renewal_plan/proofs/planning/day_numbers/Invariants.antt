use Rattle.std.proofs.Common.{take}
use Rattle.renewal_plan.specs.Searching.{HasDays}
use Rattle.renewal_plan.proofs.planning.day_numbers.Given as goal

abbrev pub invariant-loop-day : goal.invariant-loop-day
invariant-loop-day l = HasDays l.numbers (take l.day-index l.days)
