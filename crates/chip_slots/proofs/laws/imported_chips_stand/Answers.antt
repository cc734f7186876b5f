use Rattle.chip_slots.proofs.ChipRuns.{answered_stands, cut_off_open}
use Rattle.chip_slots.proofs.laws.imported_chips_stand.Goals as goal

pub returns-clause-answered : goal.returns-clause-answered
returns-clause-answered g c = λ told told' first n0 n1 acts taken says k k' bytes result tells stands imports is idle. answered_stands _ tells told told' first n0 n1 acts taken says k k' bytes result stands imports is idle

pub returns-clause-left : goal.returns-clause-left
returns-clause-left g c = λ told told' first n0 n1 acts taken says k k' bytes tells stands imports. cut_off_open _ tells told told' first n0 n1 acts taken says k k' bytes stands imports
