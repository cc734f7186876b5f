-- A disk at a moment, and what a crash then may leave (this project's own). A moment is the disk's number of calls.
use Rattle.std.specs.Prelude.{◌≡◌, ◌+◌, ◌-◌, ◌^◌, ◌<◌, ◌≤◌, ◌⊎◌, ◌&&◌, ◌||◌, ℕ, List, [], ◌∷◌, Bool, true, false, length, slice_index, nat_lt, nat_le}

-- The bytes that a read gives, and the ranges, place and length, that were written since the last sync that succeeded.
pub record Standing : Type 0 where
  pub bytes : List ℕ
  pub pending : List (ℕ × ℕ)

-- The place lies in one of the ranges.
abbrev pub is_among : ℕ → List (ℕ × ℕ) → Bool
is_among i [] = false
is_among i (r ∷ rs) = (nat_le r.0 i && nat_lt i (r.0 + r.1)) || is_among i rs

-- An image that a crash may leave: any byte may stand in a pending range, and elsewhere what a read gives.
pub record Crash (s : Standing) (image : List ℕ) : Type 0 where
  pub size : length image ≡ length s.bytes
  pub same : (i : ℕ) → is_among i s.pending ≡ false → slice_index image i ≡ slice_index s.bytes i

-- Nothing is pending: a crash leaves just what a read gives.
abbrev pub IsClean : Standing → Type 0
IsClean s = s.pending ≡ []

-- ---- device calls

-- A reading changes nothing.
abbrev pub Reads : Standing → Standing → Type 0
Reads old new = new ≡ old

-- A write leaves its range pending, and the bytes in it where it succeeds. One that fails leaves any bytes there.
pub record Writes (at : ℕ) (bytes : List ℕ) (ok : Bool) (old new : Standing) : Type 0 where
  pub size : length new.bytes ≡ length old.bytes
  pub elsewhere : (i : ℕ) → is_among i ((at, length bytes) ∷ []) ≡ false → slice_index new.bytes i ≡ slice_index old.bytes i
  pub there : ok ≡ true → (i : ℕ) → i < length bytes → slice_index new.bytes (at + i) ≡ slice_index bytes i
  pub pending : new.pending ≡ (at, length bytes) ∷ old.pending

-- A sync that succeeds leaves nothing pending. One that fails changes nothing.
abbrev pub Syncs : Bool → Standing → Standing → Type 0
Syncs true old new = new ≡ record { bytes = old.bytes; pending = [] }
Syncs false old new = new ≡ old

-- A device call is counted, or the count stands at its last value and the call failed.
abbrev pub CountsCall : Bool → ℕ → ℕ → Type 0
CountsCall ok before now = (now ≡ before + 1) ⊎ ((now ≡ before) × (before ≡ 2 ^ 64 - 1) × (ok ≡ false))

-- A device call: what stood at earlier moments stays told, and there is one more moment, after this step; or the number
-- of calls stands at its last value, and the call failed.
pub record DeviceCall (ok : Bool) (step : Standing → Standing → Type 0) (before now : ℕ) (past told : ℕ → Standing) : Type 0 where
  pub keeps : (moment : ℕ) → moment ≤ before → told moment ≡ past moment
  pub steps : ((now ≡ before + 1) × step (past before) (told now)) ⊎ ((now ≡ before) × (before ≡ 2 ^ 64 - 1) × (ok ≡ false))

-- ---- images over time

-- Each image at each of these moments is so.
abbrev pub AlwaysFrom : (ℕ → Standing) → ℕ → ℕ → (List ℕ → Type 0) → Type 0
AlwaysFrom told from to P = (moment : ℕ) (image : List ℕ) → from ≤ moment → moment ≤ to → Crash (told moment) image → P image
