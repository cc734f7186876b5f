use Rattle.chip_slots.specs.Ready.{ReadsAs}
use Rattle.chip_slots.proofs.NewState.{fill_write, filled_now, on_ok, synced_when}
use Rattle.chip_slots.proofs.DeviceWork.{then_sync}
use Rattle.chip_slots.proofs.chip.gates.fill_slot.Goals as goal

pub returns-in_err-write_at-clause-images : goal.returns-in_err-write_at-clause-images
returns-in_err-write_at-clause-images g c = λ tells old free. fill_write c.args.slot old c.args.text.now _ _ _ _ _ c.requires.short free (c.write_at.ensures.call tells)

pub returns-clause-images : goal.returns-clause-images
returns-clause-images g c = λ tells old free.
    let wrote = c.in_ok-write_at.ensures.call tells in
    let synced = c.sync.ensures.call (c.in_ok-write_at.ensures.tells tells) in
    then_sync (ReadsAs old) _ _ _ _ _ _ _ (fill_write c.args.slot old c.args.text.now _ _ _ _ _ c.requires.short free wrote) synced

pub returns-clause-done : goal.returns-clause-done
returns-clause-done g c = on_ok c.sync.result _ (λ is tells old y free says.
    let wrote = c.in_ok-write_at.ensures.call tells in
    let synced = c.sync.ensures.call (c.in_ok-write_at.ensures.tells tells) in
    filled_now c.args.slot old y c.args.text.now _ _ _ _ _ _ c.requires.short free says wrote (synced_when _ _ _ _ _ is synced))
