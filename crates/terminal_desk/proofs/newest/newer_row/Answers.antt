use Rattle.std.proofs.Common.{Option, subst}
use Rattle.std.specs.List.{cons_option}
use Rattle.keeper.specs.declared.rows.Settled.{Settled}
use Rattle.terminal_desk.specs.Walks.{IsNewest}
use Rattle.terminal_desk.proofs.newest.newer_row.Goals as goal

pub returns-in-Some-clause-newest : goal.returns-in-Some-clause-newest
returns-in-Some-clause-newest c = λ after is. subst (λ (o : Option Settled). IsNewest c.args.cars.now c.args.cas.now (cons_option o after) c.newer.result) c.in-Some.ensures (c.newer.ensures.newest after is)
