use Rattle.std.proofs.Common.{inl, refl}
use Rattle.chip_events.specs.Events.{ImportsOne}
use Rattle.chip_events.proofs.Untouched.{untouched_by}
use Rattle.eac_net.proofs.Happenings.{calls_none, calls_provided}
use Rattle.eac_net.proofs.chips.importing.import_at.Goals as goal

pub returns-in-Err-clause-calls : goal.returns-in-Err-clause-calls
returns-in-Err-clause-calls g c =
    calls_none g.D.ChipDisk c.args.chip c.args.disk.now c.args.disk.now _ _ c.args.world.now _ _ (record { day = refl; packets = refl; acks = refl; counts = λ other. c.reserve.ensures.kept other }) (untouched_by g.D.ChipDisk c.args.disk.now c.args.disk.now refl) (λ s. inl refl)

pub returns-in-Ok-clause-calls : goal.returns-in-Ok-clause-calls
returns-in-Ok-clause-calls g c =
    calls_provided g.D.ChipDisk c.args.chip c.args.disk.now c.import-came.new.disk g.P.SignatureProvider c.args.provider.now c.import-came.new.provider c.args.world.now _ c.reserve.new.self c.of-imports.result c.import-came.new.imports
    (λ k s s'. ImportsOne k c.args.bytes.now s c.import-came.result s') (λ other. c.reserve.ensures.kept other) c.in-Ok.ensures.room c.of-imports.ensures refl refl c.put.ensures c.import-came.ensures.provider.faults c.import-came.ensures.turn
