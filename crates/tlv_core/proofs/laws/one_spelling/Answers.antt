use Rattle.tlv_core.proofs.Objects as objects
use Rattle.tlv_core.proofs.laws.one_spelling.Goals as goal

pub returns-clause-spelling : goal.returns-clause-spelling
returns-clause-spelling c = objects.one_spelling

pub returns-clause-object : goal.returns-clause-object
returns-clause-object c = objects.one_object
