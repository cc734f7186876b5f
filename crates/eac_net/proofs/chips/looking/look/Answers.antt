use Rattle.std.proofs.Common.{List, ◌≡◌, refl, get_or}
use Rattle.std.proofs.lemmas.Option.{slice_get-get_or}
use Rattle.eac_base.proofs.Tellings.{told_same}
use Rattle.keeper.specs.declared.rows.Row.{Row}
use Rattle.eac_net.specs.Counts.{count_at}
use Rattle.eac_net.specs.Handed.{Unasked}
use Rattle.eac_net.specs.Objects.{over_disks}
use Rattle.eac_net.specs.declared.event.Event.TheVariants as events
use Rattle.eac_net.proofs.ChipItems.{chip_ran}
use Rattle.eac_net.proofs.Happenings.{look_happens, some_day}
use Rattle.eac_net.proofs.chips.looking.look.Goals as goal

pub returns-clause-steps : goal.returns-clause-steps
returns-clause-steps g c setup o between =
    let G = g.D.ChipDisk in
    let today = some_day c.args.world.now.day c.requires.day in
    let disks = c.args.chips.now in
    let d = get_or disks c.args.chip c.index-chips-chip.result in
    let d' = c.look-came.new.disk in
    chip_ran G setup (events.Look c.args.chip) c.args.chip refl (λ i x. x) (λ m s s' answer asked rests. rests) (λ m s s' answer rests. rests)
    c.args.world.now c.args.world.now c.conclude.new.world (over_disks G disks o) (over_disks G _ o)
    disks d d' c.requires.chip (slice_get-get_or disks c.args.chip c.index-chips-chip.result c.requires.chip) (λ n. refl) (λ n. refl)
    refl refl refl today.0 today.1 Unasked refl
    c.looked.result c.conclude.result c.args.line.now c.conclude.new.line between (told_same (λ (rows rows' : List Row). (rows' ≡ rows) × Unit {0}) o.rows (λ rows. (refl, tt)))
    (look_happens G today.0 c.args.chip d d' o.says c.looked.result o.provider_faults c.args.world.now c.look-came.result c.looked.ensures (c.look-came.ensures.turn (count_at c.args.world.now.imports c.args.chip)))
    c.conclude.ensures
