-- What a crash at any moment of a run leaves of a chip, by the chip's acts in the run's last state (this project's own).
use Rattle.std.specs.Prelude.{◌≡◌, ◌≤◌, ◌++◌, ℕ, List, [], ◌∷◌, Some, ◌⊎◌, Ok, Err}
use Rattle.eac_base.specs.declared.acks.Ack.{Ack}
use Rattle.chip_verify.specs.declared.trust_point.TrustPoint.{TrustPoint}
use Rattle.chip_verify.specs.Trust.{Trust, points}
use Rattle.chip_verify.specs.Later.{Later, IsAmong}
use Rattle.chip_slots.specs.Crash.{Standing, Crash}
use Rattle.chip_slots.specs.Image.{trust_read}
use Rattle.chip_slots.specs.Acts.{Act, Settling, Answered, Unsettled, Found, Lost, after, trust_of, IsTaken}
use Rattle.chip_events.specs.Acts.{ChipAct, ChipCall, MakeCall, OpenCall, GiveCall, act_of, acts_of, IsIn}

-- ---- acts that have to be in the prefix

-- The import of this number on the chip, which was answered Ok at this number of calls.
abbrev pub IsOkImport : ℕ → ChipCall → Type 0
IsOkImport number (MakeCall t result) = ⊥
IsOkImport number (OpenCall t) = ⊥
IsOkImport number (GiveCall bytes verdict n (Ok what)) = n ≡ number
IsOkImport number (GiveCall bytes verdict n (Err e)) = ⊥

pub record IsAckOf (a : Ack) (c : ChipAct) : Type 0 where
  pub import : IsOkImport a.import c.call
  pub answered : c.settling ≡ Answered
  pub calls : c.to ≡ a.calls

abbrev pub IsMaking : ChipCall → Type 0
IsMaking (MakeCall t result) = Unit {0}
IsMaking (OpenCall t) = ⊥
IsMaking (GiveCall bytes verdict number result) = ⊥

abbrev pub IsOpening : ChipCall → Type 0
IsOpening (MakeCall t result) = ⊥
IsOpening (OpenCall t) = Unit {0}
IsOpening (GiveCall bytes verdict number result) = ⊥

abbrev pub IsThere : Settling → Type 0
IsThere Answered = Unit {0}
IsThere Unsettled = ⊥
IsThere (Found at) = Unit {0}
IsThere (Lost at) = ⊥

-- An opening had read by this moment that the act's change is there: it came after the act, and the change stood.
abbrev pub WasRead : List ChipAct → ℕ → ChipAct → Type 0
WasRead [] m c = ⊥
WasRead (a ∷ acts) m c = (IsOpening a.call × (a.to ≤ m) × IsIn c acts × IsThere c.settling) ⊎ WasRead acts m c

-- ---- what a crash leaves

-- The image at this moment reads as the trust after a prefix of the acts that were taken by then, or as none where the
-- prefix is empty. The prefix, whose acts stand the newest first, holds what was made, acknowledged or read by then.
pub record IsPrefix (chip : ℕ) (acts : List ChipAct) (acks : List Ack) (m : ℕ) (image : List ℕ) : Type 0 where
  pub taken : List Act
  pub newest : List Act
  pub kept : List Act
  pub is_taken : IsTaken (acts_of acts) m taken
  pub split : taken ≡ newest ++ kept
  pub reads : trust_read image ≡ trust_of (after kept)
  pub made : (c : ChipAct) → IsIn c acts → IsMaking c.call → c.settling ≡ Answered → c.to ≤ m → IsIn (act_of c) kept
  pub acknowledged : (c : ChipAct) (a : Ack) → IsIn c acts → IsIn a acks → a.chip ≡ chip → IsAckOf a c → a.calls ≤ m →
      IsIn (act_of c) kept
  pub was_read : (c : ChipAct) → WasRead acts m c → IsIn (act_of c) kept

-- What stood on this chip's disk at each moment, from the first to the last, with these acts.
module _ (chip : ℕ) (told : ℕ → Standing) (first calls : ℕ) (acts : List ChipAct) where
  abbrev pub CrashLeavesAPrefix : List Ack → Type 0
  CrashLeavesAPrefix acks = (m : ℕ) (image : List ℕ) → first ≤ m → m ≤ calls → Crash (told m) image →
      IsPrefix chip acts acks m image

  -- This act is an opening, and has read this trust: the disk read so when it returned.
  pub record HasRead (c : ChipAct) (t : Trust) : Type 0 where
    pub among : IsIn c acts
    pub opened : c.call ≡ OpenCall t
    pub trust : trust_read (told c.to).bytes ≡ Some t

  -- No date falls: each later image is of a later trust than what an opening has read.
  abbrev pub NeverFalls : Type 0
  NeverFalls = (c : ChipAct) (t : Trust) (m : ℕ) (image : List ℕ) → HasRead c t → c.to ≤ m → m ≤ calls →
      Crash (told m) image → (u : Trust) × (trust_read image ≡ Some u) × Later t u

  -- A point that one opening has read and a later one hasn't is in no image after that.
  abbrev pub NeverReturns : Type 0
  NeverReturns = (c d : ChipAct) (t u v : Trust) (p : TrustPoint) (m : ℕ) (image : List ℕ) → HasRead c t → HasRead d u →
      c.to ≤ d.to →
      d.to ≤ m → m ≤ calls → Crash (told m) image → trust_read image ≡ Some v →
      IsAmong p (points t) → (IsAmong p (points u) → ⊥) → IsAmong p (points v) → ⊥

  -- Each opening has read what stood on the disk.
  abbrev pub OpeningsRead : Type 0
  OpeningsRead = (c : ChipAct) (t : Trust) → IsIn c acts → c.call ≡ OpenCall t → HasRead c t

-- Each acknowledgement of a chip is of one of its acts, and each import that was answered Ok has one.
pub record Acknowledged (chip : ℕ) (acts : List ChipAct) (acks : List Ack) : Type 0 where
  pub of_acts : (a : Ack) → IsIn a acks → a.chip ≡ chip → (c : ChipAct) × IsIn c acts × IsAckOf a c
  pub all : (c : ChipAct) (number : ℕ) → IsIn c acts → IsOkImport number c.call →
      IsIn (record { chip = chip; import = number; calls = c.to }) acks

-- With the acknowledgements that were added, those of a chip stay of its acts, and all of them.
pub record KeepsAcks (chip : ℕ) (acts acts' : List ChipAct) (acks acks' : List Ack) : Type 0 where
  pub new : List Ack
  pub added : acks' ≡ acks ++ new
  pub keeps : (more : List Ack) → Acknowledged chip acts more → Acknowledged chip acts' (more ++ new)

-- All that is promised of one chip, with the acknowledgements of the run.
pub record SurvivesCrashes (chip : ℕ) (told : ℕ → Standing) (first calls : ℕ) (acts : List ChipAct) (acks : List Ack) : Type 0 where
  pub crash : CrashLeavesAPrefix chip told first calls acts acks
  pub openings : OpeningsRead chip told first calls acts
  pub falls : NeverFalls chip told first calls acts
  pub returns : NeverReturns chip told first calls acts
  pub acknowledged : Acknowledged chip acts acks
