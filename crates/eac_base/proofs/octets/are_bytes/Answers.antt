use Rattle.eac_base.proofs.Steps.{are_bytes_of}
use Rattle.eac_base.proofs.octets.are_bytes.Goals as goal

pub returns : goal.returns
returns c = are_bytes_of c.args.bytes.now c.type_inv.bytes
