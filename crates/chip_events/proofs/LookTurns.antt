-- An opening after room was taken, and a look as an event.
use Rattle.std.proofs.Common.{ℕ, Result, Ok, Err, ◌∙◌}
use Rattle.chip_slots.specs.declared.answers.ChipRefusal.{ChipRefusal}
use Rattle.chip_slots.specs.declared.disk.ChipDisk.{Ghosts as DiskOf}
use Rattle.chip_slots.specs.Chips.{ChipValue}
use Rattle.chip_events.specs.Told.{ChipTold}
use Rattle.chip_events.specs.Openings.{Opens, read_in}
use Rattle.chip_events.specs.Events.{Looks, looked_as}
use Rattle.chip_events.specs.DiskTurns.{DiskTurn, OpensTo, IsUntouched}
use Rattle.chip_events.proofs.Untouched.{counts_same, chip_same}

module _ {D : Type 0} (G : DiskOf D) (d mid d' : D) (u : IsUntouched G d mid) where
  pub opens_after : (number : ℕ) (o : Result ChipValue ChipRefusal) → OpensTo G mid d' number o → OpensTo G d d' number o
  opens_after number o opens = record {
    is_chip = opens.is_chip;
    some = opens.some;
    then_some = opens.then_some;
    before = record { disk = opens.before.disk ∙ counts_same G d mid u; imports = opens.before.imports };
    after = opens.after;
    turn = opens.turn;
    tells = λ tells. opens.tells (u.tells.0 tells);
    told = λ tells first c at. opens.told (u.tells.0 tells) first c (chip_same G d mid u first c at);
  }

looks_of : (E : Type 0) (o : Result ChipValue ChipRefusal) (c c' : ChipTold) → Opens c (read_in o) c' → Looks {E = E} c (Ok (looked_as o)) c'
looks_of E (Ok v) c c' opens = opens
looks_of E (Err e) c c' opens = opens

pub look_turn : (E : Type 0) {D : Type 0} (G : DiskOf D) (d d' : D) (number : ℕ) (o : Result ChipValue ChipRefusal) → OpensTo G d d' number o → DiskTurn G d d' (number, number) (λ c c'. Looks {E = E} c (Ok (looked_as o)) c')
look_turn E {D} G d d' number o opens = record {
  some = opens.some;
  then_some = opens.then_some;
  before = opens.before;
  after = opens.after;
  turn = looks_of E o opens.some opens.then_some opens.turn.opens;
  tells = opens.tells;
  told = λ tells first c at number_is.
      let r = opens.told tells first c at in
      (r.0, r.1 ∙ number_is, r.2.chip_at.1, looks_of E o c r.0 r.2.opens);
}
