-- A chip is what its disk tells before a run.
use Rattle.std.proofs.Common.{ℕ, refl, sym, arith}
use Rattle.chip_slots.specs.Crash.{Standing}
use Rattle.chip_slots.specs.Runs.{IsBlank}
use Rattle.chip_slots.proofs.DeviceWork.{own_image}
use Rattle.chip_slots.proofs.ChipRuns.{first_kept}
use Rattle.chip_events.specs.Told.{first_chip}
use Rattle.chip_events.specs.Held.{IsChipAt}

pub first_at : (told : ℕ → Standing) (size calls faults : ℕ) → IsBlank (told calls) → IsChipAt told size calls faults calls (first_chip size calls faults)
first_at told size calls faults blank = record {
  size_is = refl;
  calls_are = refl;
  faults_are = refl;
  reads_as = sym (blank (told calls).bytes (own_image (told calls)));
  begun = omega arith;
  since = tt;
  images = first_kept told calls blank;
  order = tt;
  until = tt;
  stand_on = tt;
  openings = tt;
}
