use Rattle.std.proofs.Common.{refl, get_or}
use Rattle.std.proofs.lemmas.Option.{slice_get-get_or}
use Rattle.eac_net.specs.Objects.{kept_by, over_disks}
use Rattle.eac_net.specs.declared.event.Event.TheVariants as events
use Rattle.eac_net.proofs.ChipItems.{chip_ran}
use Rattle.eac_net.proofs.chips.making.make.Goals as goal

pub returns-clause-steps : goal.returns-clause-steps
returns-clause-steps g c setup o between =
    let G = g.D.ChipDisk in
    let disks = c.args.chips.now in
    let d = get_or disks c.args.chip c.index-chips-chip.result in
    let made = c.make_at-made.ensures in
    chip_ran G setup (events.Make c.args.chip c.args.authority) c.args.chip refl (λ i x. x) (λ m s s' answer asked rests. rests) (λ m s s' answer rests. rests)
    c.args.world.now c.args.world.now c.conclude.new.world (over_disks G disks (kept_by g.B.Keeper c.args.keeper.now o)) (over_disks G _ (kept_by g.B.Keeper c.make_at-made.new.keeper o))
    disks d c.make_at-made.new.disk c.requires.chip (slice_get-get_or disks c.args.chip c.index-chips-chip.result c.requires.chip) (λ n. refl) (λ n. refl)
    refl refl refl c.unwrap-day.result c.unwrap-day.ensures made.0 made.1.from
    c.make_at-made.result c.conclude.result c.args.line.now c.conclude.new.line between made.1.told (made.2 c.args.chip o.provider_faults o.says c.args.world.now) c.conclude.ensures
