use Rattle.chat_rights.proofs.Bits.{same_rights}
use Rattle.chat_rights.proofs.laws.rights_are_their_bits.Goals as goal

pub returns : goal.returns
returns c = same_rights
