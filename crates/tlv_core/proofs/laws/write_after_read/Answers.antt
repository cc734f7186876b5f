use Rattle.tlv_core.proofs.Objects as objects
use Rattle.tlv_core.proofs.laws.write_after_read.Goals as goal

pub returns : goal.returns
returns c = objects.write_after_read
