use Rattle.std.proofs.Common.{◌≡◌, ◌∙◌, List, [], Result, refl, sym, subst}
use Rattle.std.specs.Prelude.{IsOk}
use Rattle.chip_slots.specs.declared.answers.ChipRefusal.{ChipRefusal}
use Rattle.chip_events.specs.declared.answers.Taken.{Taken}
use Rattle.chip_events.specs.Givings.{GivesNext, GivesAll, AllTaken}
use Rattle.chip_events.specs.DiskTurns.{HandTurn}
use Rattle.chip_events.proofs.Showing.{first_hand, map_hand, one_more_taken, one_refused, none_given}
use Rattle.chip_events.proofs.presenting.show_all.Goals as goal

pub loop-at-init : goal.loop-at-init
loop-at-init g c = record {
  front = map_hand g.D.ChipDisk g.P.SignatureProvider c.args.disk.now c.args.disk.now c.args.provider.now c.args.provider.now c.args.imports.now c.args.imports.now c.args.acks.now.acks c.args.acks.now.acks c.args.chip.now c.args.chip.now
      (Unit {0}) (Unit {0}) (λ w left. left ≡ w) (λ w left. GivesAll c.args.imports.now.chip w [] c.args.list.now.items AllTaken left) (λ x. x) (λ w left is. subst (λ (t : List Taken). GivesAll c.args.imports.now.chip w [] t AllTaken left) (sym c.requires) is)
      (first_hand g.D.ChipDisk g.P.SignatureProvider c.args.disk.now c.args.provider.now c.args.imports.now c.args.acks.now.acks c.args.chip.now);
  quiet = refl;
  size = refl;
  heard = refl;
  says = refl;
  holds = refl;
  signed = refl;
}

pub loop-at-preserved : goal.loop-at-preserved
loop-at-preserved g c = record {
  front = one_more_taken g.D.ChipDisk g.P.SignatureProvider c.args.disk.now c.loop-at.disk c.show_next.new.disk c.args.provider.now c.loop-at.provider c.show_next.new.provider c.args.imports.now c.loop-at.imports c.show_next.new.imports
      c.args.acks.now.acks c.loop-at.acks.acks c.show_next.new.acks.acks c.args.chip.now c.loop-at.chip c.show_next.new.chip c.args.certs.now c.loop-at.at c.loop-at.list.items c.show_next.new.list.items
      c.in-Some.bytes.now (sym c.in-Some.ensures) c.loop-at.invariant.front tt c.loop-at.invariant.says
      (subst (λ (r : Result (Unit {0}) ChipRefusal). HandTurn g.D.ChipDisk g.P.SignatureProvider c.loop-at.disk c.show_next.new.disk c.loop-at.provider c.show_next.new.provider c.loop-at.imports c.show_next.new.imports c.loop-at.acks.acks c.show_next.new.acks.acks c.loop-at.chip c.show_next.new.chip (IsOk r) (λ w left. GivesNext c.loop-at.imports.chip w c.in-Some.bytes.now r c.loop-at.list.items c.show_next.new.list.items left)) c.in-Ok-Ok.field-0-is c.in-Ok-Ok.ensures.turn);
  quiet = c.in-Ok-Ok.ensures.quiet (λ e. absurd (cc (e, c.in-Ok-Ok.field-0-is))) ∙ c.loop-at.invariant.quiet;
  size = c.in-Ok-Ok.ensures.size ∙ c.loop-at.invariant.size;
  heard = c.in-Ok-Ok.ensures.heard (λ e. absurd (cc (e, c.in-Ok-Ok.field-0-is))) ∙ c.loop-at.invariant.heard;
  says = c.in-Ok-Ok.ensures.provider.verdicts ∙ c.loop-at.invariant.says;
  holds = c.in-Ok-Ok.ensures.provider.keys ∙ c.loop-at.invariant.holds;
  signed = c.in-Ok-Ok.ensures.provider.pairs ∙ c.loop-at.invariant.signed;
}

pub returns-in-Err-clause-turn : goal.returns-in-Err-clause-turn
returns-in-Err-clause-turn g c =
    none_given g.D.ChipDisk g.P.SignatureProvider c.args.disk.now c.loop-at.disk c.show_next.new.disk c.args.provider.now c.loop-at.provider c.show_next.new.provider c.args.imports.now c.loop-at.imports c.show_next.new.imports
    c.args.acks.now.acks c.loop-at.acks.acks c.show_next.new.acks.acks c.args.chip.now c.loop-at.chip c.show_next.new.chip c.args.certs.now c.loop-at.at c.loop-at.list.items c.show_next.new.list.items
    c.in-Some.bytes.now (sym c.in-Some.ensures) c.loop-at.invariant.front _ c.in-Err.ensures.disk c.in-Err.ensures.unasked c.in-Err.ensures.imports c.in-Err.ensures.acks c.in-Err.ensures.chip c.in-Err.ensures.list

pub returns-in-Ok-Err-clause-turn : goal.returns-in-Ok-Err-clause-turn
returns-in-Ok-Err-clause-turn g c =
    one_refused g.D.ChipDisk g.P.SignatureProvider c.args.disk.now c.loop-at.disk c.show_next.new.disk c.args.provider.now c.loop-at.provider c.show_next.new.provider c.args.imports.now c.loop-at.imports c.show_next.new.imports
    c.args.acks.now.acks c.loop-at.acks.acks c.show_next.new.acks.acks c.args.chip.now c.loop-at.chip c.show_next.new.chip c.args.certs.now c.loop-at.at c.loop-at.list.items c.show_next.new.list.items
    c.in-Some.bytes.now (sym c.in-Some.ensures) c.loop-at.invariant.front c.in-Ok-Err.refusal _ (λ x. x) c.loop-at.invariant.says
    (subst (λ (r : Result (Unit {0}) ChipRefusal). HandTurn g.D.ChipDisk g.P.SignatureProvider c.loop-at.disk c.show_next.new.disk c.loop-at.provider c.show_next.new.provider c.loop-at.imports c.show_next.new.imports c.loop-at.acks.acks c.show_next.new.acks.acks c.loop-at.chip c.show_next.new.chip (IsOk r) (λ w left. GivesNext c.loop-at.imports.chip w c.in-Some.bytes.now r c.loop-at.list.items c.show_next.new.list.items left)) c.in-Ok-Err.field-0-is c.in-Ok-Err.ensures.turn)
