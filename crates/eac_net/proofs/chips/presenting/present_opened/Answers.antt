use Rattle.std.proofs.Common.{Some, None, Ok, Err, refl, ap, ◌∙◌}
use Rattle.eac_base.specs.declared.failures.NoMemory.{NoMemory}
use Rattle.terminal_desk.specs.declared.search.SearchRefusal.TheVariants as search
use Rattle.eac_net.specs.Handed.{ChainFor, Unasked, Certs, NoneFor, KeeperFailed, NoRoom}
use Rattle.eac_net.specs.declared.answer.Answer.TheVariants as answers
use Rattle.eac_net.specs.declared.answer.Fault.TheVariants as faults
use Rattle.eac_net.specs.declared.answer.Presented.TheVariants as presented
use Rattle.eac_net.proofs.Happenings.{unshown_happens, shown_happens, hands_none, hands_known, err_tells, told_tells}
use Rattle.eac_net.proofs.chips.presenting.present_opened.Goals as goal

pub returns-in_err-points-clause-presents : goal.returns-in_err-points-clause-presents
returns-in_err-points-clause-presents g c = λ day first opens. (
  Unasked,
  hands_none g.B.Keeper c.args.keeper.now,
  unshown_happens g.D.ChipDisk day c.args.number c.args.terminal first c.args.disk.now (g.P.SignatureProvider.says c.args.provider.now) c.from_residual.result (g.P.SignatureProvider.faults c.args.provider.now) c.args.world.now
      Unasked None c.args.chip.now tt (err_tells c.from_residual.result c.from_residual.ensures.0) (λ hand answer told. record { told = told; next = refl }) opens,
)

pub returns-in-Ok-clause-presents : goal.returns-in-Ok-clause-presents
returns-in-Ok-clause-presents g c = λ day first opens. (
  Certs (ChainFor c.args.terminal c.as_slice.result.now) c.in-Ok.chain,
  hands_known g.B.Keeper c.args.keeper.now c.chain_due.new.keeper (ChainFor c.args.terminal c.as_slice.result.now) c.chain_due.result (Ok c.in-Ok.chain) c.in-Ok.is c.chain_due.ensures,
  shown_happens g.D.ChipDisk g.P.SignatureProvider day c.args.number c.args.terminal first c.args.disk.now c.show_chain.new.disk c.args.provider.now c.show_chain.new.provider c.args.world.now c.show_chain.new.world
      c.args.chip.now c.show_chain.new.chip c.as_slice.result.now (c.as_slice.ensures.value ∙ c.in_ok-points.ensures) c.in-Ok.chain c.show_chain.result opens c.show_chain.ensures.turn
      c.shown.result c.shown.ensures c.show_chain.ensures.world c.show_chain.ensures.provider.faults,
)

pub returns-in-Err-NoChain-clause-presents : goal.returns-in-Err-NoChain-clause-presents
returns-in-Err-NoChain-clause-presents g c = λ day first opens. (
  NoneFor (ChainFor c.args.terminal c.as_slice.result.now),
  hands_known g.B.Keeper c.args.keeper.now c.chain_due.new.keeper (ChainFor c.args.terminal c.as_slice.result.now) c.chain_due.result (Err search.NoChain) (c.in-Err-NoChain.is ∙ (λ i. Err (c.in-Err-NoChain.field-0-is i))) c.chain_due.ensures,
  unshown_happens g.D.ChipDisk day c.args.number c.args.terminal first c.args.disk.now (g.P.SignatureProvider.says c.args.provider.now) (Ok c.told.result) (g.P.SignatureProvider.faults c.args.provider.now) c.args.world.now
      (NoneFor (ChainFor c.args.terminal c.as_slice.result.now)) (Some (answers.Presented presented.NoChain)) c.args.chip.now (ap (ChainFor c.args.terminal) (c.as_slice.ensures.value ∙ c.in_ok-points.ensures))
      (told_tells NoMemory c.told.result (answers.Presented presented.NoChain) c.told.ensures.answer c.told.ensures.sent) (λ hand answer told. record { told = told; next = refl }) opens,
)

pub returns-in-Err-KeeperFault-clause-presents : goal.returns-in-Err-KeeperFault-clause-presents
returns-in-Err-KeeperFault-clause-presents g c = λ day first opens. (
  KeeperFailed (ChainFor c.args.terminal c.as_slice.result.now),
  hands_known g.B.Keeper c.args.keeper.now c.chain_due.new.keeper (ChainFor c.args.terminal c.as_slice.result.now) c.chain_due.result (Err search.KeeperFault) (c.in-Err-KeeperFault.is ∙ (λ i. Err (c.in-Err-KeeperFault.field-0-is i))) c.chain_due.ensures,
  unshown_happens g.D.ChipDisk day c.args.number c.args.terminal first c.args.disk.now (g.P.SignatureProvider.says c.args.provider.now) (Ok c.told-in-Err-KeeperFault.result) (g.P.SignatureProvider.faults c.args.provider.now) c.args.world.now
      (KeeperFailed (ChainFor c.args.terminal c.as_slice.result.now)) (Some (answers.Failed faults.Keeper)) c.args.chip.now (ap (ChainFor c.args.terminal) (c.as_slice.ensures.value ∙ c.in_ok-points.ensures))
      (told_tells NoMemory c.told-in-Err-KeeperFault.result (answers.Failed faults.Keeper) c.told-in-Err-KeeperFault.ensures.answer c.told-in-Err-KeeperFault.ensures.sent) (λ hand answer told. record { told = told; next = refl }) opens,
)

pub returns-clause-presents : goal.returns-clause-presents
returns-clause-presents g c = λ day first opens. (
  NoRoom (ChainFor c.args.terminal c.as_slice.result.now),
  hands_known g.B.Keeper c.args.keeper.now c.chain_due.new.keeper (ChainFor c.args.terminal c.as_slice.result.now) c.chain_due.result (Err search.NoMemory) (c.in-Err-NoMemory.is ∙ (λ i. Err (c.in-Err-NoMemory.field-0-is i))) c.chain_due.ensures,
  unshown_happens g.D.ChipDisk day c.args.number c.args.terminal first c.args.disk.now (g.P.SignatureProvider.says c.args.provider.now) (Err _) (g.P.SignatureProvider.faults c.args.provider.now) c.args.world.now
      (NoRoom (ChainFor c.args.terminal c.as_slice.result.now)) None c.args.chip.now (ap (ChainFor c.args.terminal) (c.as_slice.ensures.value ∙ c.in_ok-points.ensures))
      tt (λ hand answer told. record { told = told; next = refl }) opens,
)
