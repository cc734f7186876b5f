use Rattle.std.proofs.Common.{refl, ◌∙◌, get_or}
use Rattle.std.proofs.lemmas.Option.{slice_get-get_or}
use Rattle.eac_net.specs.Chips.{known_of}
use Rattle.eac_net.specs.Objects.{outside}
use Rattle.eac_net.specs.declared.event.Event.TheVariants as events
use Rattle.eac_net.proofs.ChipItems.{chip_ran}
use Rattle.eac_net.proofs.Happenings.{some_day}
use Rattle.eac_net.proofs.chips.presenting.present.Goals as goal

pub returns-clause-steps : goal.returns-clause-steps
returns-clause-steps g c setup between =
    let G = g.D.ChipDisk in
    let today = some_day c.args.world.now.day c.requires.day in
    let disks = c.args.chips.now in
    let d = get_or disks c.args.chip c.index-chips-chip.result in
    let asked = c.present_at-came.ensures.provider in
    let came = c.present_at-came.ensures.presents today.0 in
    chip_ran G setup (events.Present c.args.chip c.args.terminal) c.args.chip refl (λ i x. x) (λ m s s' answer asked rests. rests) (λ m s s' answer rests. rests)
    c.args.world.now c.present_at-came.new.world c.conclude.new.world
    (outside g.B.Keeper g.P.SignatureProvider (known_of G disks) c.args.keeper.now c.args.provider.now) (outside g.B.Keeper g.P.SignatureProvider (known_of G _) c.present_at-came.new.keeper c.present_at-came.new.provider)
    disks d c.present_at-came.new.disk c.requires.chip (slice_get-get_or disks c.args.chip c.index-chips-chip.result c.requires.chip) (λ n. refl) (λ n. refl)
    asked.verdicts asked.keys asked.pairs today.0 today.1 came.0 came.1.from
    c.present_at-came.result c.conclude.result c.args.line.now c.conclude.new.line between came.1.told came.2 c.conclude.ensures

pub returns-clause-day : goal.returns-clause-day
returns-clause-day g c = c.conclude.ensures.day ∙ (c.present_at-came.ensures.presents 0).2.calls.world.day
