use Rattle.std.proofs.Common.{Some, inl, sym}
use Rattle.chip_slots.specs.Ready.{ReadsAs, ReadsEither}
use Rattle.chip_slots.proofs.NewState.{on_ok, ok_gives, same_slots, says_there, spare_image, spare_read, gate_read}
use Rattle.chip_slots.proofs.DeviceWork.{works_then, works_map, no_work, then_read}
use Rattle.chip_slots.proofs.chip.gates.store.Goals as goal

pub returns-in_err-shown-clause-images : goal.returns-in_err-shown-clause-images
returns-in_err-shown-clause-images g c = λ tells old y spare says more.
    then_read (ReadsEither old (Some y)) _ _ _ _ _ _ _ (no_work (ReadsEither old (Some y)) _ _ (λ i crash. inl (spare_image c.args.slot old _ spare i crash))) (c.read_gate.ensures.call tells)

pub returns-clause-images : goal.returns-clause-images
returns-clause-images g c = λ tells old y spare says more.
    let read = c.in_ok-shown.ensures.call tells in
    let told = c.in_ok-shown.ensures.calls.tells tells in
    let begun = then_read (ReadsEither old (Some y)) _ _ _ _ _ _ _ (no_work (ReadsEither old (Some y)) _ _ (λ i crash. inl (spare_image c.args.slot old _ spare i crash))) read in
    let spare_then = spare_read c.args.slot old _ _ _ _ spare read in
    let shown = gate_read c.args.slot _ _ _ _ _ (sym (c.in_ok-shown.ensures.gate tells)) read in
    let slots = same_slots _ _ _ _ (g.met.D.ChipDisk.measured c.args.disk.now tells) (g.met.D.ChipDisk.measured c.read_gate.new.disk told) c.in_ok-shown.ensures.calls.size in
    let ready = c.in_ok-close_and_fill.ensures.done told old y spare_then shown (says_there c.args.slot y c.args.text.now _ _ slots says) in
    let told_then = c.in_ok-close_and_fill.ensures.calls.tells told in
    let filled = works_map (ReadsAs old) (ReadsEither old (Some y)) (λ i as_old. inl as_old) _ _ _ _ (c.in_ok-close_and_fill.ensures.images told old spare_then shown) in
    works_then (ReadsEither old (Some y)) _ _ _ _ _ _ (works_then (ReadsEither old (Some y)) _ _ _ _ _ _ begun filled) (c.open_gate.ensures.images told_then old y ready more)

pub returns-clause-done : goal.returns-clause-done
returns-clause-done g c = on_ok c.open_gate.result _ (λ is tells old y spare says more.
    let read = c.in_ok-shown.ensures.call tells in
    let told = c.in_ok-shown.ensures.calls.tells tells in
    let spare_then = spare_read c.args.slot old _ _ _ _ spare read in
    let shown = gate_read c.args.slot _ _ _ _ _ (sym (c.in_ok-shown.ensures.gate tells)) read in
    let slots = same_slots _ _ _ _ (g.met.D.ChipDisk.measured c.args.disk.now tells) (g.met.D.ChipDisk.measured c.read_gate.new.disk told) c.in_ok-shown.ensures.calls.size in
    let ready = c.in_ok-close_and_fill.ensures.done told old y spare_then shown (says_there c.args.slot y c.args.text.now _ _ slots says) in
    ok_gives c.open_gate.result _ c.open_gate.ensures.done is (c.in_ok-close_and_fill.ensures.calls.tells told) old y ready more)
