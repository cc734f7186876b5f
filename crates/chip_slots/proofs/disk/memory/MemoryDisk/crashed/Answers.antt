use Rattle.std.proofs.Common.{◌≡◌, length, sym, ap, ◌∙◌, arith, length-take}
use Rattle.chip_slots.specs.Recorded.{DiskValue, told_by}
use Rattle.chip_slots.proofs.Recordings.{seen_count}
use Rattle.chip_slots.proofs.Replaying.{until_within, until_texts, until_image, image_crash}
use Rattle.chip_slots.proofs.disk.memory.MemoryDisk.crashed.Goals as goal

pub slice_bounds-image_of-end : goal.slice_bounds-image_of-end
slice_bounds-image_of-end c =
    let steps : length c.as_slice-steps.result.now ≡ length c.self.inside.steps.items = ap length c.as_slice-steps.ensures.value in
    let seen : length c.self.inside.steps.items ≡ length c.args.self.now.done = sym (seen_count c.self.inside.steps.items c.self.inside.texts.items) ∙ ap (λ (v : DiskValue). length v.done) c.self.view_is in
    omega (arith, c.requires, steps, seen, length-take c.args.moment c.as_slice-steps.result.now)

pub image_of-requires-clause-within : goal.image_of-requires-clause-within
image_of-requires-clause-within c = until_within c.args.moment c.self.inside.first c.as_slice.result.now c.self.inside.steps.items c.as_slice-steps.result.now c.self.inside.texts.items c.as_slice-2.result.now c.as_slice.ensures c.as_slice-steps.ensures.value c.as_slice-2.ensures.value c.self.invariant.2

pub image_of-requires-clause-texts : goal.image_of-requires-clause-texts
image_of-requires-clause-texts c = until_texts c.args.moment c.self.inside.first c.as_slice.result.now c.self.inside.steps.items c.as_slice-steps.result.now c.self.inside.texts.items c.as_slice-2.result.now c.as_slice.ensures c.as_slice-steps.ensures.value c.as_slice-2.ensures.value c.self.invariant.1

pub returns-clause-image : goal.returns-clause-image
returns-clause-image c = until_image c.args.moment c.self.inside.first c.as_slice.result.now c.self.inside.steps.items c.as_slice-steps.result.now c.self.inside.texts.items c.as_slice-2.result.now c.as_slice.ensures c.as_slice-steps.ensures.value c.as_slice-2.ensures.value c.args.self.now c.args.torn c.image_of.result (ap (λ (v : DiskValue). v.first) c.self.view_is) (ap (λ (v : DiskValue). v.done) c.self.view_is) c.image_of.ensures

pub returns-clause-crash : goal.returns-clause-crash
returns-clause-crash c = image_crash c.args.torn (told_by c.args.self.now c.args.moment) c.image_of.result (returns-clause-image c)
