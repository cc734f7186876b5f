use Rattle.std.proofs.Common.{Option, subst}
use Rattle.std.specs.Prelude.{IfSome}
use Rattle.issue_core.specs.declared.registering.serving.RegisterAnswer.{RegisterAnswer}
use Rattle.issue_core.specs.Registering.Desk.{RegisterCause}
use Rattle.issue_core.proofs.RegisterDesk.Serves.{serves_seen, serves_new, rose_later}
use Rattle.issue_core.proofs.registering.serving.register.Goals as goal

pub returns-in-Some-clause-delivery : goal.returns-in-Some-clause-delivery
returns-in-Some-clause-delivery g c = serves_seen (g.B.Keeper.rows c.args.keeper.now) (g.B.Keeper.rows c.look.new.keeper) _ _ c.in_ok-answer.field-0 c.in-Some.answer c.in-Some.is (g.met.B.Keeper.unique c.args.keeper.now) c.in_ok-answer.ensures.told

pub returns-in-None-clause-delivery : goal.returns-in-None-clause-delivery
returns-in-None-clause-delivery g c = serves_new (g.B.Keeper.rows c.args.keeper.now) (g.B.Keeper.rows c.look.new.keeper) _ _ _ c.in_ok-answer.field-0 c.enter.result c.in-None.is c.in_ok-answer.ensures.told c.enter.ensures.told (λ e. rose_later _ _ _ c.look.ensures.cause.later (c.enter.ensures.cause.failed e))

pub returns-in-Some-clause-answered : goal.returns-in-Some-clause-answered
returns-in-Some-clause-answered g c = subst (λ (o : Option RegisterAnswer). IfSome o (RegisterCause c.args.reference.now c.args.request.now c.args.day)) c.in-Some.is (c.in_ok-answer.ensures.answered c.args.day)
