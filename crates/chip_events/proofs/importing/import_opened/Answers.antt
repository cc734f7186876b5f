use Rattle.std.proofs.Common.{Result, subst}
use Rattle.std.specs.Prelude.{IsOk}
use Rattle.eac_base.specs.declared.failures.NoMemory.{NoMemory}
use Rattle.chip_slots.specs.declared.answers.ChipRefusal.{ChipRefusal}
use Rattle.chip_events.specs.declared.answers.Taken.{Taken}
use Rattle.chip_events.specs.Givings.{Gives}
use Rattle.chip_events.specs.DiskTurns.{HandTurn}
use Rattle.chip_events.proofs.ImportTurns.{took_turn, not_taken_turn, wanting_turn}
use Rattle.chip_events.proofs.importing.import_opened.Goals as goal

pub returns-in-Err-clause-turn : goal.returns-in-Err-clause-turn
returns-in-Err-clause-turn g c = λ first opens.
    wanting_turn NoMemory g.D.ChipDisk g.P.SignatureProvider first c.args.disk.now c.give.new.disk c.args.provider.now c.give.new.provider c.args.imports.now c.give.new.imports c.args.acks.now.acks c.give.new.acks.acks c.args.bytes.now
    c.args.chip.now c.args.chip.now opens _ c.in-Err.ensures.disk c.in-Err.ensures.unasked c.in-Err.ensures.imports c.in-Err.ensures.acks

pub returns-in-Ok-Err-clause-turn : goal.returns-in-Ok-Err-clause-turn
returns-in-Ok-Err-clause-turn g c = λ first opens.
    not_taken_turn NoMemory g.D.ChipDisk g.P.SignatureProvider first c.args.disk.now c.give.new.disk c.args.provider.now c.give.new.provider c.args.imports.now c.give.new.imports c.args.acks.now.acks c.give.new.acks.acks c.args.bytes.now
    c.args.chip.now c.give.new.chip opens c.in-Ok-Err.refusal
    (subst (λ (r : Result Taken ChipRefusal). HandTurn g.D.ChipDisk g.P.SignatureProvider c.args.disk.now c.give.new.disk c.args.provider.now c.give.new.provider c.args.imports.now c.give.new.imports c.args.acks.now.acks c.give.new.acks.acks c.args.chip.now c.give.new.chip (IsOk r) (λ w left. Gives c.args.imports.now.chip w c.args.bytes.now r left)) c.in-Ok-Err.field-0-is c.in-Ok-Err.ensures.turn)

pub returns-in-Ok-Ok-clause-turn : goal.returns-in-Ok-Ok-clause-turn
returns-in-Ok-Ok-clause-turn g c = λ first opens.
    took_turn NoMemory g.D.ChipDisk g.P.SignatureProvider first c.args.disk.now c.give.new.disk c.args.provider.now c.give.new.provider c.args.imports.now c.give.new.imports c.args.acks.now.acks c.give.new.acks.acks c.args.bytes.now
    c.args.chip.now c.give.new.chip opens c.in-Ok-Ok.taken c.day_of.result c.day_of.ensures
    (subst (λ (r : Result Taken ChipRefusal). HandTurn g.D.ChipDisk g.P.SignatureProvider c.args.disk.now c.give.new.disk c.args.provider.now c.give.new.provider c.args.imports.now c.give.new.imports c.args.acks.now.acks c.give.new.acks.acks c.args.chip.now c.give.new.chip (IsOk r) (λ w left. Gives c.args.imports.now.chip w c.args.bytes.now r left)) c.in-Ok-Ok.field-0-is c.in-Ok-Ok.ensures.turn)
