-- A disk in memory, which keeps all its device calls (this project's own).
use Rattle.std.specs.Prelude.{◌≡◌, ◌⊎◌, ◌≤◌, ℕ, zero, suc, List, [], ◌∷◌, length, take, Bool, true, false, Some, None, Result, Ok, Err, replicate}
use Rattle.std.specs.declared.option.Option.{Option}
use Rattle.eac_base.specs.Planned.{IsPlanned, next_count}
use Rattle.chip_slots.specs.Crash.{Standing}

-- ---- what a call did

pub data Did : Type 0 where
  -- a reading, or a sync that failed
  Idle : Did
  -- these bytes were written at a place
  Wrote : ℕ → List ℕ → Did
  -- a write of so many bytes at a place failed
  Torn : ℕ → ℕ → Did
  Synced : Did

-- A write or a sync that fails, or succeeds.
abbrev pub writing : Bool → ℕ → List ℕ → Did
writing true at bytes = Torn at (length bytes)
writing false at bytes = Wrote at bytes

abbrev pub syncing : Bool → Did
syncing true = Idle
syncing false = Synced

-- The bytes with others over their front, as far as they reach.
abbrev pub over : List ℕ → List ℕ → List ℕ
over [] old = old
over (b ∷ bytes) [] = []
over (b ∷ bytes) (o ∷ old) = b ∷ over bytes old

-- The same from a place on.
abbrev pub put : ℕ → List ℕ → List ℕ → List ℕ
put zero bytes old = over bytes old
put (suc at) bytes [] = []
put (suc at) bytes (o ∷ old) = o ∷ put at bytes old

abbrev pub after_call : Did → Standing → Standing
after_call Idle s = s
after_call (Wrote at bytes) s = record { bytes = put at bytes s.bytes; pending = (at, length bytes) ∷ s.pending }
after_call (Torn at size) s = record { bytes = s.bytes; pending = (at, size) ∷ s.pending }
after_call Synced s = record { bytes = s.bytes; pending = [] }

-- What stands after these calls, in their order.
abbrev pub played : Standing → List Did → Standing
played s [] = s
played s (d ∷ ds) = played (after_call d s) ds

abbrev pub fresh : List ℕ → Standing
fresh bytes = record { bytes = bytes; pending = [] }

-- ---- the disk

-- The bytes that it began with, its calls in their order, the calls that fail by their numbers from 1, the number of
-- calls after which each fails, and its counts.
pub record DiskValue : Type 0 where
  pub first : List ℕ
  pub done : List Did
  pub plan : List ℕ
  pub stop_after : Option ℕ
  pub faults : ℕ
  pub spare : ℕ

-- What stood at a moment.
abbrev pub told_by : DiskValue → ℕ → Standing
told_by d m = played (fresh d.first) (take m d.done)

abbrev pub stands_now : DiskValue → Standing
stands_now d = played (fresh d.first) d.done

abbrev pub IsStopped : Option ℕ → ℕ → Type 0
IsStopped None calls = ⊥
IsStopped (Some stop) calls = stop ≤ calls

-- The next call fails: its number stands in the plan, or as many calls were made as are to succeed.
abbrev pub FailsNext : DiskValue → Type 0
FailsNext d = IsPlanned d.plan (length d.done) ⊎ IsStopped d.stop_after (length d.done)

-- The count of faults after a call: one more where it failed, up to its last value.
abbrev pub faults_after : {T E : Type 0} → Result T E → ℕ → ℕ
faults_after (Ok v) faults = faults
faults_after (Err e) faults = next_count faults

-- What a call leaves alone.
pub record IsSame (old new : DiskValue) : Type 0 where
  pub first : new.first ≡ old.first
  pub plan : new.plan ≡ old.plan
  pub stop_after : new.stop_after ≡ old.stop_after

-- Nothing but the count of faults may have changed.
pub record IsCounted (old new : DiskValue) : Type 0 where
  pub same : IsSame old new
  pub done : new.done ≡ old.done
  pub spare : new.spare ≡ old.spare

-- ---- a crash

-- This byte stands in each of the ranges, the newest of which comes first.
abbrev pub torn_over : ℕ → List (ℕ × ℕ) → List ℕ → List ℕ
torn_over torn [] bytes = bytes
torn_over torn (r ∷ rs) bytes = put r.0 (replicate r.1 torn) (torn_over torn rs bytes)

-- The image with this byte in each place that a crash may change.
abbrev pub torn_image : ℕ → Standing → List ℕ
torn_image torn s = torn_over torn s.pending s.bytes
