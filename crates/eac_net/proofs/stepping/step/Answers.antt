use Rattle.std.proofs.Common.{refl, sym, ap, ◌∙◌}
use Rattle.eac_net.specs.Chips.{known_of}
use Rattle.eac_net.specs.Objects.{outside}
use Rattle.eac_net.specs.declared.event.Event.TheVariants as events
use Rattle.eac_net.proofs.Stepped.{may_run, party_run, run_of_kind}
use Rattle.eac_net.proofs.stepping.step.Goals as goal

pub returns-in-Day-clause-steps : goal.returns-in-Day-clause-steps
returns-in-Day-clause-steps g c =
    let disks = known_of g.D.ChipDisk c.args.chips.now in
    let o = outside g.B.Keeper g.P.SignatureProvider disks c.args.keeper.now c.args.provider.now in
    party_run g.D.ChipDisk c.args.setup.now c.args.event.now _ c.begin_day.result (c.args.world.now, c.args.line.now) (c.begin_day.new.world, c.begin_day.new.line) o o c.args.chips.now c.args.chips.now c.in-Day.is refl refl
    (c.begin_day.ensures.steps c.args.setup.now o c.requires.parties)

pub returns-in-Ask-clause-steps : goal.returns-in-Ask-clause-steps
returns-in-Ask-clause-steps g c =
    let disks = known_of g.D.ChipDisk c.args.chips.now in
    let o = outside g.B.Keeper g.P.SignatureProvider disks c.args.keeper.now c.args.provider.now in
    let o' = outside g.B.Keeper g.P.SignatureProvider disks c.ask.new.keeper c.args.provider.now in
    let is = c.in-Ask.is ∙ ap (events.Ask c.in-Ask.reference) (sym c.as_slice.ensures) in
    party_run g.D.ChipDisk c.args.setup.now c.args.event.now _ c.ask.result (c.args.world.now, c.args.line.now) (c.ask.new.world, c.ask.new.line) o o' c.args.chips.now c.args.chips.now is refl refl
    (c.ask.ensures.steps c.args.setup.now o c.requires.parties)

pub returns-in-Found-clause-steps : goal.returns-in-Found-clause-steps
returns-in-Found-clause-steps g c =
    let disks = known_of g.D.ChipDisk c.args.chips.now in
    let o = outside g.B.Keeper g.P.SignatureProvider disks c.args.keeper.now c.args.provider.now in
    let o' = outside g.B.Keeper g.P.SignatureProvider disks c.found.new.keeper c.found.new.provider in
    party_run g.D.ChipDisk c.args.setup.now c.args.event.now _ c.found.result (c.args.world.now, c.args.line.now) (c.found.new.world, c.found.new.line) o o' c.args.chips.now c.args.chips.now c.in-Found.is refl refl
    (c.found.ensures.steps disks)

pub returns-in-Link-clause-steps : goal.returns-in-Link-clause-steps
returns-in-Link-clause-steps g c =
    let disks = known_of g.D.ChipDisk c.args.chips.now in
    let o = outside g.B.Keeper g.P.SignatureProvider disks c.args.keeper.now c.args.provider.now in
    let o' = outside g.B.Keeper g.P.SignatureProvider disks c.link.new.keeper c.link.new.provider in
    party_run g.D.ChipDisk c.args.setup.now c.args.event.now _ c.link.result (c.args.world.now, c.args.line.now) (c.link.new.world, c.link.new.line) o o' c.args.chips.now c.args.chips.now c.in-Link.is refl refl
    (c.link.ensures.steps disks)

pub returns-in-Apply-clause-steps : goal.returns-in-Apply-clause-steps
returns-in-Apply-clause-steps g c =
    let disks = known_of g.D.ChipDisk c.args.chips.now in
    let o = outside g.B.Keeper g.P.SignatureProvider disks c.args.keeper.now c.args.provider.now in
    let o' = outside g.B.Keeper g.P.SignatureProvider disks c.apply.new.keeper c.apply.new.provider in
    party_run g.D.ChipDisk c.args.setup.now c.args.event.now _ c.apply.result (c.args.world.now, c.args.line.now) (c.apply.new.world, c.apply.new.line) o o' c.args.chips.now c.args.chips.now c.in-Apply.is refl refl
    (c.apply.ensures.steps disks)

pub returns-in-Deliver-clause-steps : goal.returns-in-Deliver-clause-steps
returns-in-Deliver-clause-steps g c =
    let disks = known_of g.D.ChipDisk c.args.chips.now in
    let o = outside g.B.Keeper g.P.SignatureProvider disks c.args.keeper.now c.args.provider.now in
    let o' = outside g.B.Keeper g.P.SignatureProvider disks c.deliver.new.keeper c.deliver.new.provider in
    party_run g.D.ChipDisk c.args.setup.now c.args.event.now _ c.deliver.result (c.args.world.now, c.args.line.now) (c.deliver.new.world, c.deliver.new.line) o o' c.args.chips.now c.args.chips.now c.in-Deliver.is refl refl
    (c.deliver.ensures.steps disks)

pub returns-in-Trust-clause-steps : goal.returns-in-Trust-clause-steps
returns-in-Trust-clause-steps g c =
    let disks = known_of g.D.ChipDisk c.args.chips.now in
    let o = outside g.B.Keeper g.P.SignatureProvider disks c.args.keeper.now c.args.provider.now in
    let o' = outside g.B.Keeper g.P.SignatureProvider disks c.trust.new.keeper c.args.provider.now in
    party_run g.D.ChipDisk c.args.setup.now c.args.event.now _ c.trust.result (c.args.world.now, c.args.line.now) (c.trust.new.world, c.trust.new.line) o o' c.args.chips.now c.args.chips.now c.in-Trust.is refl refl
    (c.trust.ensures.steps o)

pub returns-in-Fetch-clause-steps : goal.returns-in-Fetch-clause-steps
returns-in-Fetch-clause-steps g c =
    let disks = known_of g.D.ChipDisk c.args.chips.now in
    let o = outside g.B.Keeper g.P.SignatureProvider disks c.args.keeper.now c.args.provider.now in
    let may = may_run c.args.setup.now _ c.args.world.now c.args.event.now _ c.in-Fetch.is c.requires in
    party_run g.D.ChipDisk c.args.setup.now c.args.event.now _ c.fetch.result (c.args.world.now, c.args.line.now) (c.fetch.new.world, c.fetch.new.line) o o c.args.chips.now c.args.chips.now c.in-Fetch.is refl refl
    (c.fetch.ensures.steps c.args.setup.now o may.fits c.requires.parties)

pub returns-in-Send-clause-steps : goal.returns-in-Send-clause-steps
returns-in-Send-clause-steps g c =
    let disks = known_of g.D.ChipDisk c.args.chips.now in
    let o = outside g.B.Keeper g.P.SignatureProvider disks c.args.keeper.now c.args.provider.now in
    let is = c.in-Send.is ∙ ap (events.Send c.in-Send.from c.in-Send.to) (sym c.as_slice-in-Send.ensures) in
    let may = may_run c.args.setup.now _ c.args.world.now c.args.event.now _ is c.requires in
    party_run g.D.ChipDisk c.args.setup.now c.args.event.now _ c.send.result (c.args.world.now, c.args.line.now) (c.send.new.world, c.send.new.line) o o c.args.chips.now c.args.chips.now is refl refl
    (c.send.ensures.steps c.args.setup.now o may.fits c.requires.parties)

pub returns-in-Push-clause-steps : goal.returns-in-Push-clause-steps
returns-in-Push-clause-steps g c =
    let disks = known_of g.D.ChipDisk c.args.chips.now in
    let o = outside g.B.Keeper g.P.SignatureProvider disks c.args.keeper.now c.args.provider.now in
    let o' = outside g.B.Keeper g.P.SignatureProvider disks c.push.new.keeper c.args.provider.now in
    party_run g.D.ChipDisk c.args.setup.now c.args.event.now _ c.push.result (c.args.world.now, c.args.line.now) (c.push.new.world, c.push.new.line) o o' c.args.chips.now c.args.chips.now c.in-Push.is refl refl
    (c.push.ensures.steps o)

pub returns-in-Make-clause-steps : goal.returns-in-Make-clause-steps
returns-in-Make-clause-steps g c =
    let o = outside g.B.Keeper g.P.SignatureProvider (known_of g.D.ChipDisk c.args.chips.now) c.args.keeper.now c.args.provider.now in
    let o' = outside g.B.Keeper g.P.SignatureProvider (known_of g.D.ChipDisk c.make.new.chips) c.make.new.keeper c.args.provider.now in
    run_of_kind g.D.ChipDisk c.args.setup.now c.args.event.now _ c.make.result (c.args.world.now, c.args.line.now) (c.make.new.world, c.make.new.line) o o' c.args.chips.now c.make.new.chips c.in-Make.is
    (c.make.ensures.steps c.args.setup.now o c.requires.parties)

pub returns-in-Present-clause-steps : goal.returns-in-Present-clause-steps
returns-in-Present-clause-steps g c =
    let o = outside g.B.Keeper g.P.SignatureProvider (known_of g.D.ChipDisk c.args.chips.now) c.args.keeper.now c.args.provider.now in
    let o' = outside g.B.Keeper g.P.SignatureProvider (known_of g.D.ChipDisk c.present.new.chips) c.present.new.keeper c.present.new.provider in
    run_of_kind g.D.ChipDisk c.args.setup.now c.args.event.now _ c.present.result (c.args.world.now, c.args.line.now) (c.present.new.world, c.present.new.line) o o' c.args.chips.now c.present.new.chips c.in-Present.is
    (c.present.ensures.steps c.args.setup.now c.requires.parties)

pub returns-in-Import-clause-steps : goal.returns-in-Import-clause-steps
returns-in-Import-clause-steps g c =
    let o = outside g.B.Keeper g.P.SignatureProvider (known_of g.D.ChipDisk c.args.chips.now) c.args.keeper.now c.args.provider.now in
    let o' = outside g.B.Keeper g.P.SignatureProvider (known_of g.D.ChipDisk c.import.new.chips) c.args.keeper.now c.import.new.provider in
    let is = c.in-Import.is ∙ ap (events.Import c.in-Import.chip) (sym c.as_slice-in-Import.ensures) in
    run_of_kind g.D.ChipDisk c.args.setup.now c.args.event.now _ c.import.result (c.args.world.now, c.args.line.now) (c.import.new.world, c.import.new.line) o o' c.args.chips.now c.import.new.chips is
    (c.import.ensures.steps c.args.setup.now o c.requires.parties)

pub returns-in-Look-clause-steps : goal.returns-in-Look-clause-steps
returns-in-Look-clause-steps g c =
    let o = outside g.B.Keeper g.P.SignatureProvider (known_of g.D.ChipDisk c.args.chips.now) c.args.keeper.now c.args.provider.now in
    let o' = outside g.B.Keeper g.P.SignatureProvider (known_of g.D.ChipDisk c.look.new.chips) c.args.keeper.now c.args.provider.now in
    run_of_kind g.D.ChipDisk c.args.setup.now c.args.event.now _ c.look.result (c.args.world.now, c.args.line.now) (c.look.new.world, c.look.new.line) o o' c.args.chips.now c.look.new.chips c.in-Look.is
    (c.look.ensures.steps c.args.setup.now o c.requires.parties)
