use Rattle.chat_rights.proofs.Templates.{template_again}
use Rattle.chat_rights.proofs.laws.read_after_write.Goals as goal

pub returns : goal.returns
returns c = template_again
