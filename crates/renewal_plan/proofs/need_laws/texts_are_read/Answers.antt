use Rattle.renewal_plan.proofs.NeedTexts.{texts_are_read}
use Rattle.renewal_plan.proofs.need_laws.texts_are_read.Goals as goal

pub returns : goal.returns
returns c = texts_are_read
