use Rattle.eac_base.specs.declared.failures.NoMemory.{NoMemory}
use Rattle.chip_events.proofs.Acknowledging.{opening_keeps, making_keeps, importing_keeps, presenting_keeps}
use Rattle.chip_events.proofs.laws.events_keep_acknowledgements.Goals as goal

pub returns-clause-opens : goal.returns-clause-opens
returns-clause-opens c = λ chip k k' read acks opens. opening_keeps chip k read k' acks opens

pub returns-clause-makes : goal.returns-clause-makes
returns-clause-makes c = λ chip root day k k' answer acks makes. making_keeps chip root day k answer k' acks makes

pub returns-clause-imports : goal.returns-clause-imports
returns-clause-imports c = λ chip bytes s s' result imports. importing_keeps chip NoMemory bytes s result s' imports

pub returns-clause-presents : goal.returns-clause-presents
returns-clause-presents c = λ chip certs s s' result presents. presenting_keeps chip NoMemory certs s result s' presents
