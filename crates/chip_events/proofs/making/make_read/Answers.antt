use Rattle.std.proofs.Common.{refl, ap, ◌∙◌, Ok}
use Rattle.eac_base.specs.declared.failures.NoMemory.{NoMemory}
use Rattle.cvc_grammar.specs.Views.{seen_cert}
use Rattle.chip_slots.specs.Image.{is_memory}
use Rattle.chip_events.proofs.MadeTurns.{read_turn}
use Rattle.chip_events.proofs.Untouched.{still_turn}
use Rattle.chip_events.proofs.making.make_read.Goals as goal

pub returns-in-Err-clause-turn : goal.returns-in-Err-clause-turn
returns-in-Err-clause-turn g c = λ number.
    still_turn g.D.ChipDisk c.args.disk.now c.make_room.new.disk c.make_room.ensures.same _ (λ k size. (ap is_memory size ∙ c.requires.memory, refl)) number

pub returns-in-Ok-clause-turn : goal.returns-in-Ok-clause-turn
returns-in-Ok-clause-turn g c = λ number.
    let e = c.make_chip-made.ensures in
    read_turn NoMemory g.D.ChipDisk c.args.disk.now c.make_room.new.disk c.make_chip-made.new.disk (Ok (seen_cert c.args.root.now)) c.args.day number c.args.root.now.holder c.make_chip-made.result c.answer_of.result c.make_room.ensures.same refl
    (record {
      memory = ap is_memory c.make_room.ensures.same.size ∙ c.requires.memory;
      sized = e.size;
      root = e.root;
      makes = e.makes;
      untouched = e.untouched;
      cause = e.cause;
      quiet = e.quiet;
      tells = e.calls.tells;
      size = e.calls.size;
      later = e.calls.later;
      faults = e.calls.faults;
    }) c.answer_of.ensures
