use Rattle.std.proofs.Common.{Option, subst}
use Rattle.std.specs.Prelude.{IfSome}
use Rattle.issue_core.specs.declared.registering.serving.RegisterAnswer.{RegisterAnswer}
use Rattle.issue_core.specs.Registering.Desk.{RegisterCause}
use Rattle.issue_core.proofs.registering.serving.look.Goals as goal

pub returns-in-Some-clause-answered : goal.returns-in-Some-clause-answered
returns-in-Some-clause-answered g c = λ day. subst (λ (o : Option RegisterAnswer). IfSome o (RegisterCause c.args.reference.now c.args.request.now day)) c.in-Some.is (c.in_ok-answer.ensures.answered day)

pub returns-in-None-clause-answered : goal.returns-in-None-clause-answered
returns-in-None-clause-answered g c = λ day. c.look_at_count.ensures.answered c.args.reference.now c.args.request.now day
