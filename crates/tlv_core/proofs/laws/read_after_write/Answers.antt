use Rattle.tlv_core.proofs.Objects as objects
use Rattle.tlv_core.proofs.laws.read_after_write.Goals as goal

pub returns : goal.returns
returns c = objects.object_again
