use Rattle.std.proofs.Common.{refl, sym, subst, Ok}
use Rattle.eac_base.specs.declared.failures.NoMemory.{NoMemory}
use Rattle.chip_events.specs.declared.answers.Looked.{Looked}
use Rattle.chip_events.specs.DiskTurns.{DiskTurn}
use Rattle.chip_events.specs.Events.{Looks}
use Rattle.chip_events.proofs.LookTurns.{look_turn}
use Rattle.chip_events.proofs.Untouched.{still_turn}
use Rattle.chip_events.proofs.looking.look.Goals as goal

pub returns-in-Err-clause-turn : goal.returns-in-Err-clause-turn
returns-in-Err-clause-turn g c = λ number.
    still_turn g.D.ChipDisk c.args.disk.now c.open_anew.new.disk c.in-Err.ensures.wanting _ (λ k size. refl) number

pub returns-in-Ok-clause-turn : goal.returns-in-Ok-clause-turn
returns-in-Ok-clause-turn g c = λ number.
    subst (λ (l : Looked). DiskTurn g.D.ChipDisk c.args.disk.now c.open_anew.new.disk (number, number) (λ k k'. Looks {E = NoMemory} k (Ok l) k')) (sym c.looked_of.ensures)
    (look_turn NoMemory g.D.ChipDisk c.args.disk.now c.open_anew.new.disk number c.in-Ok.opened (c.in-Ok.ensures.opened number))
