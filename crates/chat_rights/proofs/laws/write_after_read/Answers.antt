use Rattle.chat_rights.proofs.Templates.{template_stands}
use Rattle.chat_rights.proofs.laws.write_after_read.Goals as goal

pub returns : goal.returns
returns c = template_stands
