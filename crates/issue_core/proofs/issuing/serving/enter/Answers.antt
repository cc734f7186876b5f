use Rattle.issue_core.proofs.IssuingDesk.Answering.{entered_says}
use Rattle.issue_core.proofs.issuing.serving.enter.Goals as goal

pub returns-clause-answered : goal.returns-clause-answered
returns-clause-answered g c = entered_says c.args.row.now c.args.certificate c.args.request.now c.add-added.result c.answer_added.result c.add-added.ensures.asked c.answer_added.ensures
