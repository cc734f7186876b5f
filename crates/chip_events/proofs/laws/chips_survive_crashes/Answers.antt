use Rattle.chip_events.proofs.CrashLaws.{crash_leaves, openings_read, never_falls, never_returns}
use Rattle.chip_events.proofs.laws.chips_survive_crashes.Goals as goal

pub returns-clause-crash : goal.returns-clause-crash
returns-clause-crash c = λ chip told size calls faults first t acks at. crash_leaves chip told size calls faults first t acks at

pub returns-clause-openings : goal.returns-clause-openings
returns-clause-openings c = λ chip told size calls faults first t at. openings_read chip told size calls faults first t at

pub returns-clause-falls : goal.returns-clause-falls
returns-clause-falls c = λ chip told size calls faults first t at.
    never_falls c.trust_never_goes_back.ensures.acts c.trust_never_goes_back.ensures.images chip told size calls faults first t at

pub returns-clause-returns : goal.returns-clause-returns
returns-clause-returns c = λ chip told size calls faults first t at.
    never_returns c.trust_never_goes_back.ensures.acts c.trust_never_goes_back.ensures.images chip told size calls faults first t at c.later_never_goes_back.ensures.never_back

pub returns-clause-survive : goal.returns-clause-survive
returns-clause-survive c = λ chip told size calls faults first t acks at acknowledged. record {
  crash = crash_leaves chip told size calls faults first t acks at;
  openings = openings_read chip told size calls faults first t at;
  falls = never_falls c.trust_never_goes_back.ensures.acts c.trust_never_goes_back.ensures.images chip told size calls faults first t at;
  returns = never_returns c.trust_never_goes_back.ensures.acts c.trust_never_goes_back.ensures.images chip told size calls faults first t at c.later_never_goes_back.ensures.never_back;
  acknowledged = acknowledged;
}
