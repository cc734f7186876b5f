use Rattle.std.proofs.Common.{ap, ◌∙◌}
use Rattle.chip_slots.specs.Acts.{trust_of}
use Rattle.chip_slots.proofs.LaterActs.{no_way_back, read_has}
use Rattle.chip_slots.proofs.laws.trust_never_goes_back.Goals as goal

pub returns-clause-acts : goal.returns-clause-acts
returns-clause-acts c = λ more acts none t s is trust.
    let r = no_way_back c.later_never_goes_back.ensures.same c.later_never_goes_back.ensures.composes c.each_step_is_later.ensures.later c.each_step_is_later.ensures.trust more acts none t s is trust in
    (r.0, r.1, r.2.later, r.2.trust)

pub returns-clause-images : goal.returns-clause-images
returns-clause-images c = λ a older below m sure only newer image t s none is trust may.
    let h = read_has a older below m sure only newer _ none may in
    let r = no_way_back c.later_never_goes_back.ensures.same c.later_never_goes_back.ensures.composes c.each_step_is_later.ensures.later c.each_step_is_later.ensures.trust h.0 _ h.1 t s is trust in
    (r.0.0, h.2 ∙ ap trust_of r.1, r.2.later)
