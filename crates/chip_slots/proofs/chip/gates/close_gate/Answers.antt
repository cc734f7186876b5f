use Rattle.chip_slots.specs.Ready.{ReadsAs}
use Rattle.chip_slots.proofs.NewState.{close_write, closed_now, on_ok, synced_when}
use Rattle.chip_slots.proofs.DeviceWork.{then_sync}
use Rattle.chip_slots.proofs.chip.gates.close_gate.Goals as goal

pub returns-in_err-write_at-clause-images : goal.returns-in_err-write_at-clause-images
returns-in_err-write_at-clause-images g c = λ tells old spare open_is. close_write c.args.slot old _ _ _ _ _ spare open_is (c.write_at.ensures.call tells)

pub returns-clause-images : goal.returns-clause-images
returns-clause-images g c = λ tells old spare open_is.
    let wrote = c.in_ok-write_at.ensures.call tells in
    let synced = c.sync.ensures.call (c.in_ok-write_at.ensures.tells tells) in
    then_sync (ReadsAs old) _ _ _ _ _ _ _ (close_write c.args.slot old _ _ _ _ _ spare open_is wrote) synced

pub returns-clause-done : goal.returns-clause-done
returns-clause-done g c = on_ok c.sync.result _ (λ is tells old spare open_is.
    let wrote = c.in_ok-write_at.ensures.call tells in
    let synced = c.sync.ensures.call (c.in_ok-write_at.ensures.tells tells) in
    closed_now c.args.slot old _ _ _ _ _ _ spare open_is wrote (synced_when _ _ _ _ _ is synced))
