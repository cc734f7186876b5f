use Rattle.std.proofs.Common.{ℕ, List, Ok, Err, [], ◌∷◌, refl, subst}
use Rattle.std.specs.declared.option.Option.{Option}
use Rattle.chip_events.specs.declared.answers.MakeAnswer.TheVariants as makes
use Rattle.chip_events.specs.DiskTurns.{DiskTurn}
use Rattle.chip_events.specs.Makings.{Makes}
use Rattle.chip_events.proofs.Untouched.{untouched_by}
use Rattle.eac_base.specs.declared.failures.NoMemory.{NoMemory}
use Rattle.eac_net.specs.ChipCalls.{HandsOver}
use Rattle.eac_net.specs.Counts.{count_at}
use Rattle.eac_net.specs.Handed.{Certs, NoneFor, RootOf, handed_root}
use Rattle.eac_net.specs.declared.answer.Answer.TheVariants as answers
use Rattle.eac_net.proofs.Happenings.{told_tells, make_happens, unfounded_happens, failed_happens}
use Rattle.eac_net.proofs.chips.making.make_at.Goals as goal

pub returns-in-Err : goal.returns-in-Err
returns-in-Err g c = (
  handed_root (RootOf c.args.authority) (Err c.in-Err.fault),
  c.in-Err.ensures.hands,
  λ chip provider says w. failed_happens g.D.ChipDisk c.args.day chip c.args.disk.now c.args.disk.now says c.failed.result provider w c.args.authority c.in-Err.fault _ _ c.in-Err.ensures.cause c.failed.ensures (untouched_by g.D.ChipDisk c.args.disk.now c.args.disk.now refl),
)

pub returns-in-Ok-None : goal.returns-in-Ok-None
returns-in-Ok-None g c = (
  NoneFor (RootOf c.args.authority),
  subst (λ (x : Option (List ℕ)). HandsOver g.B.Keeper c.args.keeper.now c.root_due.new.keeper (handed_root (RootOf c.args.authority) (Ok x))) c.in-Ok-None.field-0-is c.in-Ok-None.ensures.hands,
  λ chip provider says w. unfounded_happens g.D.ChipDisk c.args.day chip c.args.disk.now c.args.disk.now says _ provider w c.args.authority (told_tells NoMemory c.told.result (answers.Made makes.Unfounded) c.told.ensures.answer c.told.ensures.sent) (untouched_by g.D.ChipDisk c.args.disk.now c.args.disk.now refl),
)

pub returns-in-Ok-Some : goal.returns-in-Ok-Some
returns-in-Ok-Some g c = (
  Certs (RootOf c.args.authority) (c.in-Ok-Some.root ∷ []),
  subst (λ (x : Option (List ℕ)). HandsOver g.B.Keeper c.args.keeper.now c.root_due.new.keeper (handed_root (RootOf c.args.authority) (Ok x))) c.in-Ok-Some.field-0-is c.in-Ok-Some.ensures.hands,
  λ chip provider says w. make_happens g.D.ChipDisk c.args.day chip c.args.disk.now c.make.new.disk says c.made.result provider w c.args.authority c.in-Ok-Some.root c.make.result c.made.ensures (subst (λ (x : List ℕ). DiskTurn g.D.ChipDisk c.args.disk.now c.make.new.disk (count_at w.imports chip, count_at w.imports chip) (λ a z. Makes x c.args.day a c.make.result z)) c.as_slice.ensures (c.make.ensures.turn (count_at w.imports chip))),
)
