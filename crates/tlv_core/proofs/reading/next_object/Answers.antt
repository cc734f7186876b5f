use Rattle.tlv_core.proofs.ReadFront.{stands, is_found}
use Rattle.eac_base.proofs.Steps.{are_bytes_of}
use Rattle.tlv_core.proofs.reading.next_object.Goals as goal

pub returns-clause-found : goal.returns-clause-found
returns-clause-found c = stands _ c.args.bytes.now c.first_object.result (are_bytes_of c.args.bytes.now c.type_inv.bytes) c.first_object.ensures

pub returns-clause-only : goal.returns-clause-only
returns-clause-only c tag content rest is = is_found _ c.first_object.result tag content rest c.args.bytes.now is c.first_object.ensures
