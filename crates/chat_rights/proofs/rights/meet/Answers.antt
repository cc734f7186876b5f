use Rattle.chat_rights.proofs.Bits.{Grants-bit_and}
use Rattle.chat_rights.proofs.rights.meet.Goals as goal

pub returns-clause-both : goal.returns-clause-both
returns-clause-both c bit = rw (c.left.view_is, c.right.view_is) (Grants-bit_and c.args.left c.args.right bit)
