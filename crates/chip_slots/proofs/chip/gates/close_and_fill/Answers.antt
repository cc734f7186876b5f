use Rattle.std.proofs.Common.{ap, ◌∙◌}
use Rattle.chip_slots.specs.Gates.{seen_gate}
use Rattle.chip_slots.specs.Ready.{ReadsAs}
use Rattle.chip_slots.proofs.NewState.{on_ok, ok_gives, same_slots, says_there}
use Rattle.chip_slots.proofs.DeviceWork.{works_then}
use Rattle.chip_slots.proofs.chip.gates.close_and_fill.Goals as goal

pub returns-in-Closed-clause-done : goal.returns-in-Closed-clause-done
returns-in-Closed-clause-done g c = on_ok c.fill_slot.result _ (λ is tells old y spare shown says.
    ok_gives c.fill_slot.result _ c.fill_slot.ensures.done is tells old y (record { spare = spare; closed = shown ∙ ap seen_gate c.in-Closed.is }) says)

pub returns-in_ok-close_gate-in-Open-clause-images : goal.returns-in_ok-close_gate-in-Open-clause-images
returns-in_ok-close_gate-in-Open-clause-images g c = λ tells old spare shown.
    let gate = shown ∙ ap seen_gate c.in-Open.is in
    let free = c.in_ok-close_gate-in-Open.ensures.done tells old spare gate in
    let told = c.in_ok-close_gate-in-Open.ensures.calls.tells tells in
    works_then (ReadsAs old) _ _ _ _ _ _ (c.in_ok-close_gate-in-Open.ensures.images tells old spare gate) (c.fill_slot-in-Open.ensures.images told old free)

pub returns-in_ok-close_gate-in-Open-clause-done : goal.returns-in_ok-close_gate-in-Open-clause-done
returns-in_ok-close_gate-in-Open-clause-done g c = on_ok c.fill_slot-in-Open.result _ (λ is tells old y spare shown says.
    let gate = shown ∙ ap seen_gate c.in-Open.is in
    let free = c.in_ok-close_gate-in-Open.ensures.done tells old spare gate in
    let told = c.in_ok-close_gate-in-Open.ensures.calls.tells tells in
    let slots = same_slots _ _ _ _ (g.met.D.ChipDisk.measured c.args.disk.now tells) (g.met.D.ChipDisk.measured c.close_gate.new.disk told) c.in_ok-close_gate-in-Open.ensures.calls.size in
    ok_gives c.fill_slot-in-Open.result _ c.fill_slot-in-Open.ensures.done is told old y free (says_there c.args.slot y c.args.text.now _ _ slots says))
