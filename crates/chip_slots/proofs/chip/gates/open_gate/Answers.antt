use Rattle.std.proofs.Common.{Some}
use Rattle.chip_slots.specs.Ready.{ReadsEither}
use Rattle.chip_slots.proofs.NewState.{open_write, opened_now, on_ok, synced_when}
use Rattle.chip_slots.proofs.DeviceWork.{then_sync}
use Rattle.chip_slots.proofs.chip.gates.open_gate.Goals as goal

pub returns-in_err-write_at-clause-images : goal.returns-in_err-write_at-clause-images
returns-in_err-write_at-clause-images g c = λ tells old y ready more. open_write c.args.slot old y _ _ _ _ _ ready more (c.write_at.ensures.call tells)

pub returns-clause-images : goal.returns-clause-images
returns-clause-images g c = λ tells old y ready more.
    let wrote = c.in_ok-write_at.ensures.call tells in
    let synced = c.sync.ensures.call (c.in_ok-write_at.ensures.tells tells) in
    then_sync (ReadsEither old (Some y)) _ _ _ _ _ _ _ (open_write c.args.slot old y _ _ _ _ _ ready more wrote) synced

pub returns-clause-done : goal.returns-clause-done
returns-clause-done g c = on_ok c.sync.result _ (λ is tells old y ready more.
    let wrote = c.in_ok-write_at.ensures.call tells in
    let synced = c.sync.ensures.call (c.in_ok-write_at.ensures.tells tells) in
    opened_now c.args.slot old y _ _ _ _ _ _ ready more wrote (synced_when _ _ _ _ _ is synced))
