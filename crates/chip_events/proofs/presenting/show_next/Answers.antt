use Rattle.std.proofs.Common.{◌++◌, ◌∷◌, [], List, Result, Ok, Err, refl, ap, ◌∙◌, subst}
use Rattle.std.specs.Prelude.{IsOk}
use Rattle.chip_slots.specs.declared.answers.ChipRefusal.{ChipRefusal}
use Rattle.chip_events.specs.declared.answers.Taken.{Taken}
use Rattle.chip_events.specs.Givings.{Gives}
use Rattle.chip_events.specs.DiskTurns.{HandTurn}
use Rattle.chip_events.proofs.Showing.{map_hand}
use Rattle.chip_events.proofs.presenting.show_next.Goals as goal

pub returns-in-Ok-Err-clause-turn : goal.returns-in-Ok-Err-clause-turn
returns-in-Ok-Err-clause-turn g c =
    map_hand g.D.ChipDisk g.P.SignatureProvider c.args.disk.now c.give.new.disk c.args.provider.now c.give.new.provider c.args.imports.now c.give.new.imports c.args.acks.now.acks c.give.new.acks.acks c.args.chip.now c.give.new.chip _ _ (λ w left. Gives c.args.imports.now.chip w c.args.bytes.now (Err c.in-Ok-Err.refusal) left) _
    (λ x. x) (λ w left x. (x, c.room_for_one.ensures.kept))
    (subst (λ (r : Result Taken ChipRefusal). HandTurn g.D.ChipDisk g.P.SignatureProvider c.args.disk.now c.give.new.disk c.args.provider.now c.give.new.provider c.args.imports.now c.give.new.imports c.args.acks.now.acks c.give.new.acks.acks c.args.chip.now c.give.new.chip (IsOk r) (λ w left. Gives c.args.imports.now.chip w c.args.bytes.now r left)) c.in-Ok-Err.field-0-is c.in-Ok-Err.ensures.turn)

pub returns-in-Ok-Ok-clause-turn : goal.returns-in-Ok-Ok-clause-turn
returns-in-Ok-Ok-clause-turn g c =
    map_hand g.D.ChipDisk g.P.SignatureProvider c.args.disk.now c.give.new.disk c.args.provider.now c.give.new.provider c.args.imports.now c.give.new.imports c.args.acks.now.acks c.give.new.acks.acks c.args.chip.now c.give.new.chip _ _ (λ w left. Gives c.args.imports.now.chip w c.args.bytes.now (Ok c.in-Ok-Ok.taken) left) _
    (λ x. refl) (λ w left x. (c.in-Ok-Ok.taken, x, c.note.ensures ∙ ap (λ (l : List Taken). l ++ c.in-Ok-Ok.taken ∷ []) c.room_for_one.ensures.kept))
    (subst (λ (r : Result Taken ChipRefusal). HandTurn g.D.ChipDisk g.P.SignatureProvider c.args.disk.now c.give.new.disk c.args.provider.now c.give.new.provider c.args.imports.now c.give.new.imports c.args.acks.now.acks c.give.new.acks.acks c.args.chip.now c.give.new.chip (IsOk r) (λ w left. Gives c.args.imports.now.chip w c.args.bytes.now r left)) c.in-Ok-Ok.field-0-is c.in-Ok-Ok.ensures.turn)
