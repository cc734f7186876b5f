use Rattle.eac_base.specs.declared.failures.NoMemory.{NoMemory}
use Rattle.chip_events.proofs.TakenAsked.{opening_keeps, making_keeps, importing_keeps, presenting_keeps}
use Rattle.chip_events.proofs.laws.what_was_taken_was_asked.Goals as goal

pub returns-clause-opens : goal.returns-clause-opens
returns-clause-opens c = λ k k' read verdicts opens. opening_keeps 0 k read k' verdicts opens

pub returns-clause-makes : goal.returns-clause-makes
returns-clause-makes c = λ root day k k' answer verdicts makes. making_keeps 0 root day k answer k' verdicts makes

pub returns-clause-imports : goal.returns-clause-imports
returns-clause-imports c = λ chip bytes s s' result imports. importing_keeps chip NoMemory bytes s result s' imports

pub returns-clause-presents : goal.returns-clause-presents
returns-clause-presents c = λ chip certs s s' result presents. presenting_keeps chip NoMemory certs s result s' presents
