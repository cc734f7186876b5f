use Rattle.std.proofs.Common.{◌≡◌, ℕ, [], Result, Ok, inl, refl, subst, ⊎_elim}
use Rattle.eac_base.specs.Causes.{Rose}
use Rattle.eac_base.specs.declared.failures.NoMemory.{NoMemory}
use Rattle.chip_slots.specs.declared.answers.ChipRefusal.{ChipRefusal}
use Rattle.chip_slots.specs.declared.answers.ChipRefusal.TheVariants as refusal
use Rattle.chip_slots.specs.Chips.{ChipValue}
use Rattle.chip_events.specs.declared.answers.ImportAnswer.TheVariants as answers
use Rattle.chip_events.specs.DiskTurns.{OpensTo}
use Rattle.chip_events.proofs.ImportTurns.{not_opened_turn, nothing_turn}
use Rattle.chip_events.proofs.Untouched.{untouched_by}
use Rattle.chip_events.proofs.importing.import.Goals as goal

pub returns-in-Err-clause-turn : goal.returns-in-Err-clause-turn
returns-in-Err-clause-turn g c =
    nothing_turn g.D.ChipDisk g.P.SignatureProvider c.args.disk.now c.open_anew.new.disk c.args.provider.now c.args.imports.now c.args.acks.now.acks c.in-Err.ensures.wanting _ (λ s. inl refl)

pub returns-in-Ok-Err-clause-turn : goal.returns-in-Ok-Err-clause-turn
returns-in-Ok-Err-clause-turn g c =
    not_opened_turn NoMemory g.D.ChipDisk g.P.SignatureProvider c.args.disk.now c.open_anew.new.disk c.open_anew.new.disk c.args.provider.now c.args.provider.now c.args.imports.now c.args.imports.now c.args.acks.now.acks c.args.acks.now.acks c.args.bytes.now c.in-Ok-Err.refusal
    (subst (λ (o : Result ChipValue ChipRefusal). OpensTo g.D.ChipDisk c.args.disk.now c.open_anew.new.disk c.args.imports.now.count o) c.in-Ok-Err.field-0-is (c.in-Ok-Err.ensures.opened c.args.imports.now.count))
    (untouched_by g.D.ChipDisk c.open_anew.new.disk c.open_anew.new.disk refl) refl refl refl

pub returns-in-Ok-Ok-clause-turn : goal.returns-in-Ok-Ok-clause-turn
returns-in-Ok-Ok-clause-turn g c =
    c.import_opened.ensures.turn c.args.disk.now
    (subst (λ (o : Result ChipValue ChipRefusal). OpensTo g.D.ChipDisk c.args.disk.now c.open_anew.new.disk c.args.imports.now.count o) c.in-Ok-Ok.field-0-is (c.in-Ok-Ok.ensures.opened c.args.imports.now.count))

pub returns-in-Ok-Ok-clause-cause : goal.returns-in-Ok-Ok-clause-cause
returns-in-Ok-Ok-clause-cause g c = λ either.
    let opens = subst (λ (o : Result ChipValue ChipRefusal). OpensTo g.D.ChipDisk c.args.disk.now c.open_anew.new.disk 0 o) c.in-Ok-Ok.field-0-is (c.in-Ok-Ok.ensures.opened 0) in
    ⊎_elim
    (λ (other : c.import_opened.result ≡ Ok (answers.NotOpened refusal.DiskFault)). absurd (c.import_opened.ensures.opened refusal.DiskFault other))
    (λ (cut : c.import_opened.result ≡ Ok (answers.NotTaken refusal.DiskFault)). subst (λ (n : ℕ). Rose n (g.D.ChipDisk.faults c.import_opened.new.disk)) (c.in-Ok-Ok.ensures.quiet (λ e. absurd (cc (e, c.in-Ok-Ok.field-0-is))))
    (c.import_opened.ensures.cause cut (opens.turn.in_hand [] [] 0).memory))
    either
