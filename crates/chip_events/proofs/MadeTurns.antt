-- A making as an event, by what its calls have said.
use Rattle.std.proofs.Common.{◌≡◌, ℕ, List, Result, Ok, sym, subst}
use Rattle.chip_slots.specs.declared.answers.MakeRefusal.{MakeRefusal}
use Rattle.chip_slots.specs.declared.disk.ChipDisk.{Ghosts as DiskOf}
use Rattle.cvc_grammar.specs.declared.certificate.Cert.{Cert}
use Rattle.cvc_grammar.specs.declared.refusal.CvcRefusal.{CvcRefusal}
use Rattle.chip_events.specs.declared.answers.MakeAnswer.{MakeAnswer}
use Rattle.chip_events.specs.Makings.{MakesRead, answered_as, holder_of}
use Rattle.chip_events.specs.DiskTurns.{DiskTurn, IsUntouched}
use Rattle.chip_events.proofs.MadeChips.{Said, make_turn}
use Rattle.chip_events.proofs.Untouched.{turn_after}

pub read_turn : (E : Type 0) {D : Type 0} (G : DiskOf D) (d mid d' : D) (read : Result Cert CvcRefusal) (day number : ℕ) (holder : List ℕ) (r : Result (Unit {0}) MakeRefusal) (answer : MakeAnswer) → IsUntouched G d mid → holder ≡ holder_of read → Said G mid d' read day r →
    answer ≡ answered_as r holder → DiskTurn G d d' (number, number) (λ c c'. MakesRead {E = E} read day c (Ok answer) c')
read_turn E {D} G d mid d' read day number holder r answer u holder_is s is =
    subst (λ (a : MakeAnswer). DiskTurn G d d' (number, number) (λ c c'. MakesRead {E = E} read day c (Ok a) c')) (sym is)
    (turn_after G d mid u d' _ (number, number) (make_turn G mid d' read day number holder holder_is r s))
