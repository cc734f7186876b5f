use Rattle.std.proofs.Common.{◌≡◌, List, refl, ◌∙◌, get_or}
use Rattle.std.proofs.lemmas.Option.{slice_get-get_or}
use Rattle.eac_base.proofs.Tellings.{told_same}
use Rattle.keeper.specs.declared.rows.Row.{Row}
use Rattle.eac_net.specs.Handed.{Unasked}
use Rattle.eac_net.specs.Objects.{over_disks, provided_by}
use Rattle.eac_net.specs.declared.event.Event.TheVariants as events
use Rattle.eac_net.proofs.ChipItems.{chip_ran}
use Rattle.eac_net.proofs.Happenings.{import_happens, some_day}
use Rattle.eac_net.proofs.chips.importing.import.Goals as goal

pub returns-clause-steps : goal.returns-clause-steps
returns-clause-steps g c setup o between =
    let G = g.D.ChipDisk in
    let today = some_day c.args.world.now.day c.requires.day in
    let disks = c.args.chips.now in
    let d = get_or disks c.args.chip c.index-chips-chip.result in
    let d' = c.import_at-came.new.disk in
    chip_ran G setup (events.Import c.args.chip c.args.bytes.now) c.args.chip refl (λ i x. x) (λ m s s' answer asked rests. rests) (λ m s s' answer rests. rests)
    c.args.world.now c.import_at-came.new.world c.conclude.new.world
    (over_disks G disks (provided_by g.P.SignatureProvider c.args.provider.now o)) (over_disks G _ (provided_by g.P.SignatureProvider c.import_at-came.new.provider o))
    disks d d' c.requires.chip (slice_get-get_or disks c.args.chip c.index-chips-chip.result c.requires.chip) (λ n. refl) (λ n. refl)
    c.import_at-came.ensures.provider.verdicts c.import_at-came.ensures.provider.keys c.import_at-came.ensures.provider.pairs today.0 today.1 Unasked refl
    c.imported.result c.conclude.result c.args.line.now c.conclude.new.line between (told_same (λ (rows rows' : List Row). (rows' ≡ rows) × Unit {0}) o.rows (λ rows. (refl, tt)))
    (import_happens G today.0 c.args.chip d d' _ c.imported.result _ c.args.world.now c.import_at-came.new.world c.args.bytes.now c.import_at-came.result c.imported.ensures c.import_at-came.ensures.calls)
    c.conclude.ensures

pub returns-clause-day : goal.returns-clause-day
returns-clause-day g c = c.conclude.ensures.day ∙ c.import_at-came.ensures.calls.world.day
