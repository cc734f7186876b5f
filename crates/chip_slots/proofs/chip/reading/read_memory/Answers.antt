use Rattle.chip_slots.proofs.Looking.{looked_sync, looked_then, looked_stays, found_in}
use Rattle.chip_slots.proofs.NewState.{on_ok}
use Rattle.chip_slots.proofs.chip.reading.read_memory.Goals as goal

pub returns-in-Ok-clause-looked : goal.returns-in-Ok-clause-looked
returns-in-Ok-clause-looked g c = λ tells. looked_then _ _ _ _ _ _ (looked_sync _ _ _ _ _ (c.sync.ensures.call tells)) (looked_stays _ _ _ _ (c.read_unsynced.ensures.stays (c.sync.ensures.tells tells)))

pub returns-in-Ok-clause-since : goal.returns-in-Ok-clause-since
returns-in-Ok-clause-since g c = on_ok c.read_unsynced.result _ (λ is tells. found_in _ _ _ _ _ _ (c.in-Ok.ensures.call tells) (c.read_unsynced.ensures.stays (c.sync.ensures.tells tells)))
