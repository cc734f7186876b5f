use Rattle.tlv_core.proofs.Objects as objects
use Rattle.tlv_core.proofs.laws.no_proper_prefix.Goals as goal

pub returns : goal.returns
returns c = objects.no_proper_prefix
