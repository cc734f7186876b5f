use Rattle.std.proofs.Common.{sym, ◌∙◌}
use Rattle.terminal_desk.proofs.NewestOnes.{not_newer, newer_one, no_chain}
use Rattle.terminal_desk.proofs.newest.newer.Goals as goal

pub returns-then-is_as_new-clause-newest : goal.returns-then-is_as_new-clause-newest
returns-then-is_as_new-clause-newest c = λ after is. not_newer c.args.cars.now c.args.cas.now c.args.own.now after c.args.best (sym c.is_as_new.ensures ∙ c.if-is_as_new.true) is

pub returns-in-Some-clause-newest : goal.returns-in-Some-clause-newest
returns-in-Some-clause-newest c = λ after is. newer_one c.args.cars.now c.args.cas.now c.args.own.now c.in-Some.steps after c.args.best (sym c.is_as_new.ensures ∙ c.if-is_as_new.false) c.in-Some.ensures.found is

pub returns-in-None-clause-newest : goal.returns-in-None-clause-newest
returns-in-None-clause-newest c = λ after is. no_chain c.args.cars.now c.args.cas.now c.args.own.now after c.args.best c.in-None.ensures.found is
