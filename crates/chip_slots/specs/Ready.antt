-- What stands on a disk between the device calls that write a new state (this project's own).
use Rattle.std.specs.Prelude.{◌≡◌, ◌≢◌, ◌⊎◌, ◌<◌, ◌≤◌, ◌+◌, ◌%◌, ◌++◌, ℕ, List, Some, true, false, length, IfSome}
use Rattle.chip_verify.specs.Trust.{Trust}
use Rattle.chip_slots.specs.Slot.{record_of}
use Rattle.chip_slots.specs.Image.{Reading, is_memory, slots_in, gate, behind_gate, is_open, reads}
use Rattle.chip_slots.specs.Crash.{Standing, IsClean, AlwaysFrom}

-- ---- images while something is done

-- What stood at earlier moments stays told, and each image from the first moment to the last is so.
pub record EachImage (P : List ℕ → Type 0) (past told : ℕ → Standing) (from to : ℕ) : Type 0 where
  pub later : from ≤ to
  pub keeps : (moment : ℕ) → moment ≤ from → told moment ≡ past moment
  pub images : AlwaysFrom told from to P

abbrev pub ReadsAs : Reading → List ℕ → Type 0
ReadsAs r image = reads image ≡ r

abbrev pub ReadsEither : Reading → Reading → List ℕ → Type 0
ReadsEither a b image = (reads image ≡ a) ⊎ (reads image ≡ b)

-- ---- the slot that is to be written

-- The generation that is read belongs into another of so many slots than this one.
abbrev pub IsApart : Reading → ℕ → ℕ → Type 0
IsApart old slots slot = IfSome old (λ x. x.1 % slots ≢ slot)

-- This generation is greater than the one that is read.
abbrev pub IsMore : Reading → Trust × ℕ → Type 0
IsMore old y = IfSome old (λ x. x.1 < y.1)

-- All is on the disk, this is read, and the slot is another one than that of what is read.
pub record IsSpare (slot : ℕ) (old : Reading) (s : Standing) : Type 0 where
  pub clean : IsClean s
  pub memory : is_memory (length s.bytes) ≡ true
  pub read : reads s.bytes ≡ old
  pub inside : slot < slots_in s.bytes
  pub apart : IsApart old (slots_in s.bytes) slot

-- Besides, its gate is closed.
pub record IsFree (slot : ℕ) (old : Reading) (s : Standing) : Type 0 where
  pub spare : IsSpare slot old s
  pub closed : is_open (gate s.bytes slot) ≡ false

-- Besides, there is a record behind its gate.
pub record IsReady (slot : ℕ) (old : Reading) (y : Trust × ℕ) (s : Standing) : Type 0 where
  pub spare : IsSpare slot old s
  pub filled : record_of (slots_in s.bytes) slot (behind_gate s.bytes slot) ≡ Some y

-- These bytes are the record of y in this slot, whatever stands behind them.
abbrev pub AreRecord : (slots slot : ℕ) → List ℕ → Trust × ℕ → Type 0
AreRecord slots slot bytes y = (rest : List ℕ) → record_of slots slot (bytes ++ rest) ≡ Some y

-- All is on the disk, and this is read.
pub record IsStable (r : Reading) (s : Standing) : Type 0 where
  pub clean : IsClean s
  pub read : reads s.bytes ≡ r

-- The generation is the one after what is read.
abbrev pub IsFollowing : Reading → ℕ → Type 0
IsFollowing old generation = IfSome old (λ x. generation ≡ x.1 + 1)
