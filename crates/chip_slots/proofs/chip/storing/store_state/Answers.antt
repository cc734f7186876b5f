use Rattle.std.proofs.Common.{◌≡◌, true, ℕ, ◌/◌, ◌∙◌, ap}
use Rattle.chip_slots.specs.Image.{is_memory}
use Rattle.chip_slots.proofs.NewState.{on_ok, ok_gives}
use Rattle.chip_slots.proofs.NextSlots.{spare_of, record_for, more_of}
use Rattle.chip_slots.proofs.chip.storing.store_state.Goals as goal

pub returns-clause-images : goal.returns-clause-images
returns-clause-images g c = λ tells old stable follows.
    let memory : is_memory (g.D.ChipDisk.size c.args.disk.now) ≡ true = cc in
    let measured = g.met.D.ChipDisk.measured c.args.disk.now tells in
    let slots = ap (λ (n : ℕ). n / 8192) c.len-slots.ensures in
    let spare = spare_of old (g.D.ChipDisk.told c.args.disk.now (g.D.ChipDisk.moment c.args.disk.now)) _ c.args.generation (c.len-slots.result / 8192) stable measured memory slots follows in
    let says = record_for (g.D.ChipDisk.told c.args.disk.now (g.D.ChipDisk.moment c.args.disk.now)) _ c.args.generation (c.len-slots.result / 8192) c.args.state.now c.as_slice.result.now measured slots c.ranges.generation.fits c.write_record-text.ensures.kept (c.as_slice.ensures.value ∙ c.write_record-text.ensures.bytes) in
    c.store.ensures.images tells old (c.args.state.now, c.args.generation) spare says (more_of old c.args.state.now c.args.generation follows)

pub returns-clause-done : goal.returns-clause-done
returns-clause-done g c = on_ok c.store.result _ (λ is tells old stable follows.
    let memory : is_memory (g.D.ChipDisk.size c.args.disk.now) ≡ true = cc in
    let measured = g.met.D.ChipDisk.measured c.args.disk.now tells in
    let slots = ap (λ (n : ℕ). n / 8192) c.len-slots.ensures in
    let spare = spare_of old (g.D.ChipDisk.told c.args.disk.now (g.D.ChipDisk.moment c.args.disk.now)) _ c.args.generation (c.len-slots.result / 8192) stable measured memory slots follows in
    let says = record_for (g.D.ChipDisk.told c.args.disk.now (g.D.ChipDisk.moment c.args.disk.now)) _ c.args.generation (c.len-slots.result / 8192) c.args.state.now c.as_slice.result.now measured slots c.ranges.generation.fits c.write_record-text.ensures.kept (c.as_slice.ensures.value ∙ c.write_record-text.ensures.bytes) in
    ok_gives c.store.result _ c.store.ensures.done is tells old (c.args.state.now, c.args.generation) spare says (more_of old c.args.state.now c.args.generation follows))
