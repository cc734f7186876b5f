use Rattle.std.proofs.Common.{refl, sym, ap, ◌∙◌, subst, Result}
use Rattle.eac_base.specs.declared.failures.NoMemory.{NoMemory}
use Rattle.cvc_grammar.specs.declared.certificate.Cert.{Cert}
use Rattle.cvc_grammar.specs.declared.refusal.CvcRefusal.{CvcRefusal}
use Rattle.chip_slots.specs.Image.{is_memory}
use Rattle.chip_events.specs.DiskTurns.{DiskTurn}
use Rattle.chip_events.specs.Makings.{MakesRead, root_trust}
use Rattle.chip_events.proofs.Untouched.{untouched_by, still_turn}
use Rattle.chip_events.proofs.making.make.Goals as goal

pub returns-then-not-is_memory-clause-turn : goal.returns-then-not-is_memory-clause-turn
returns-then-not-is_memory-clause-turn g c = λ number.
    still_turn g.D.ChipDisk c.args.disk.now c.args.disk.now (untouched_by g.D.ChipDisk c.args.disk.now c.args.disk.now refl) _
    (λ k size. (ap is_memory (size ∙ sym c.len.ensures) ∙ sym c.is_memory.ensures ∙ c.if-not-is_memory.true, refl)) number

pub returns-in-Err-clause-turn : goal.returns-in-Err-clause-turn
returns-in-Err-clause-turn g c = λ number.
    still_turn g.D.ChipDisk c.args.disk.now c.args.disk.now (untouched_by g.D.ChipDisk c.args.disk.now c.args.disk.now refl) _
    (λ k size. (ap is_memory (size ∙ sym c.len.ensures) ∙ sym c.is_memory.ensures ∙ c.if-not-is_memory.false, ap (λ (r : Result Cert CvcRefusal). root_trust r c.args.day) c.in-Err.ensures.exact, refl)) number

pub returns-in-Ok-clause-turn : goal.returns-in-Ok-clause-turn
returns-in-Ok-clause-turn g c = λ number.
    subst (λ (r : Result Cert CvcRefusal). DiskTurn g.D.ChipDisk c.args.disk.now c.make_read.new.disk (number, number) (λ k k'. MakesRead {E = NoMemory} r c.args.day k c.make_read.result k')) (sym c.in-Ok.ensures.exact) (c.make_read.ensures.turn number)
