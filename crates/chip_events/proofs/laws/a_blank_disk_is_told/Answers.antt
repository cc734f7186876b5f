use Rattle.chip_events.proofs.FirstChip.{first_at}
use Rattle.chip_events.proofs.laws.a_blank_disk_is_told.Goals as goal

pub returns : goal.returns
returns g c = λ blank. first_at _ _ _ _ blank
