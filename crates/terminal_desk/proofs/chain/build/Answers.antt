use Rattle.std.proofs.Common.{Option, subst}
use Rattle.terminal_desk.specs.declared.newest.Newest.{Newest}
use Rattle.terminal_desk.specs.Chain.{own_certificates}
use Rattle.terminal_desk.specs.Walks.{IsNewest}
use Rattle.terminal_desk.proofs.NewestOnes.{is_due}
use Rattle.terminal_desk.proofs.chain.build.Goals as goal

pub returns-in-Some : goal.returns-in-Some
returns-in-Some c = is_due c.args.cars.now c.args.own.now c.args.cas.now c.in-Some.newest c.in_ok-write-in-Some.field-0
    (subst (λ (o : Option Newest). IsNewest c.args.cars.now c.args.cas.now (own_certificates c.args.own.now) o) c.in-Some.is c.in_ok-newest.ensures) c.in_ok-write-in-Some.ensures
