-- What is told of one chip over a run: plain data, without images (this project's own).
use Rattle.std.specs.Prelude.{ℕ, ◌+◌, ◌-◌, ◌^◌, min, List, [], None}
use Rattle.eac_base.specs.declared.acks.Ack.{Ack}
use Rattle.chip_slots.specs.Image.{Reading}
use Rattle.chip_events.specs.Acts.{ChipAct}
use Rattle.chip_events.specs.Verdicts.{Verdict}

-- One chip: its disk's length, number of calls and count of faults, what its disk reads as, how many imports were made on
-- it, and its acts, the newest first.
pub record ChipTold : Type 0 where
  pub size : ℕ
  pub calls : ℕ
  pub faults : ℕ
  pub reads : Reading
  pub imports : ℕ
  pub acts : List ChipAct

-- The chip within one event, with what the event has acknowledged and asked so far, and the provider's count of faults.
pub record ChipPart : Type 0 where
  pub chip : ChipTold
  pub acks : List Ack
  pub verdicts : List Verdict
  pub provider : ℕ

-- As the event finds it.
abbrev pub found_so : ChipTold → ℕ → ChipPart
found_so c provider = record { chip = c; acks = []; verdicts = []; provider = provider }

-- A count that stays at its last value.
abbrev pub one_more : ℕ → ℕ
one_more n = min (n + 1) (2 ^ 64 - 1)

-- A chip before a run: no act, and nothing that reads.
abbrev pub first_chip : (size calls faults : ℕ) → ChipTold
first_chip size calls faults = record {
  size = size;
  calls = calls;
  faults = faults;
  reads = None;
  imports = 0;
  acts = [];
}
