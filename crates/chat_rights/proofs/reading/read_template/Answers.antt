use Rattle.eac_base.proofs.Steps.{are_bytes_of}
use Rattle.chat_rights.proofs.Templates.{stands, is_found}
use Rattle.chat_rights.proofs.reading.read_template.Goals as goal

pub returns-clause-found : goal.returns-clause-found
returns-clause-found c = stands c.args.content.now c.template_in.result (are_bytes_of c.args.content.now c.type_inv.content) c.template_in.ensures

pub returns-clause-only : goal.returns-clause-only
returns-clause-only c t is = is_found c.template_in.result t c.args.content.now is c.template_in.ensures
