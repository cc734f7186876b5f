use Rattle.std.proofs.Common.{refl, ap}
use Rattle.issue_core.specs.Registering.Desk.{row_of}
use Rattle.issue_core.proofs.RegisterDesk.Serves.{told_enters}
use Rattle.issue_core.proofs.RegisterDesk.Causes.{adding_says}
use Rattle.issue_core.proofs.registering.serving.enter.Goals as goal

pub returns-clause-told : goal.returns-clause-told
returns-clause-told g c = told_enters (g.B.Keeper.rows c.args.keeper.now) (g.B.Keeper.rows c.add-added.new.self) (row_of c.args.reference.now c.args.request.now c.args.day) _ c.args.day c.args.request.now c.add-added.result c.answer_of.result (ap (λ bytes. row_of c.args.reference.now bytes c.args.day) c.in_ok-kept.ensures) refl c.answer_of.ensures c.add-added.ensures.told

pub returns-clause-answered : goal.returns-clause-answered
returns-clause-answered g c = adding_says c.args.reference.now c.args.request.now c.args.day c.in_ok-kept.kept c.add-added.result c.answer_of.result c.add-added.ensures.asked c.answer_of.ensures
