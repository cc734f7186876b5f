use Rattle.eac_net.proofs.OwnAcks.{acks_are_own, acks_are_of_items}
use Rattle.eac_net.proofs.laws.acknowledgements_are_own.Goals as goal

pub returns-clause-own : goal.returns-clause-own
returns-clause-own c = acks_are_own

pub returns-clause-items : goal.returns-clause-items
returns-clause-items c = acks_are_of_items
