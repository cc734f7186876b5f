-- What is promised of a chip whose disk tells, whatever a crash leaves of it (this project's own).
use Rattle.std.specs.Prelude.{◌≡◌, ◌≤◌, ◌++◌, ℕ, List, Some}
use Rattle.eac_base.specs.declared.acks.Ack.{Ack}
use Rattle.chip_verify.specs.declared.trust_point.TrustPoint.{TrustPoint}
use Rattle.chip_verify.specs.Trust.{Trust, points}
use Rattle.chip_verify.specs.Later.{IsAmong}
use Rattle.chip_slots.specs.Crash.{Standing, Crash}
use Rattle.chip_slots.specs.Image.{trust_read}
use Rattle.chip_slots.specs.Acts.{Act, after, trust_of, IsTaken}
use Rattle.chip_events.specs.Acts.{ChipAct, act_of, acts_of, IsIn}
use Rattle.chip_events.specs.Crashes.{IsAckOf, HasRead}

-- The chip of this number, and its disk from the run's first call to its last: what stood on it at each moment, a moment being a
-- number of calls.
module _ (chip : ℕ) (told : ℕ → Standing) (first last : ℕ) where
  -- A crash at this moment of the run may leave this image.
  pub record MayBeLeft (m : ℕ) (image : List ℕ) : Type 0 where
    pub since : first ≤ m
    pub until : m ≤ last
    pub crash : Crash (told m) image

  module _ (acts : List ChipAct) where
    -- ---- acknowledged is never lost

    -- The image reads as the trust after a prefix of the acts that were taken by then, which stand the newest first, and
    -- the prefix holds this act.
    pub record Holds (m : ℕ) (image : List ℕ) (c : ChipAct) : Type 0 where
      pub among : IsIn c acts
      pub taken : List Act
      pub newest : List Act
      pub prefix : List Act
      pub is_taken : IsTaken (acts_of acts) m taken
      pub split : taken ≡ newest ++ prefix
      pub reads : trust_read image ≡ trust_of (after prefix)
      pub holds : IsIn (act_of c) prefix

    -- From the call on at which an import was acknowledged, each image holds it.
    abbrev pub AcknowledgedIsNeverLost : List Ack → Type 0
    AcknowledgedIsNeverLost acks = (a : Ack) (m : ℕ) (image : List ℕ) → IsIn a acks → a.chip ≡ chip → a.calls ≤ m
        → MayBeLeft m image → (c : ChipAct) × IsAckOf a c × Holds m image c

    -- ---- days never fall

    -- The image reads as a trust of no earlier day, whose newest point takes effect no earlier.
    pub record ReadsNoEarlier (t : Trust) (image : List ℕ) : Type 0 where
      pub trust : Trust
      pub reads : trust_read image ≡ Some trust
      pub day : t.day ≤ trust.day
      pub newest : t.newest.from ≤ trust.newest.from

    -- What an opening has read falls back in no image from then on.
    abbrev pub DaysNeverFall : Type 0
    DaysNeverFall = (c : ChipAct) (t : Trust) (m : ℕ) (image : List ℕ) → HasRead chip told first last acts c t → c.to ≤ m
        → MayBeLeft m image → ReadsNoEarlier t image

    -- ---- a replaced point never returns

    -- One opening has read the point, and a later one has read the trust without it.
    pub record WasReplaced (p : TrustPoint) (m : ℕ) : Type 0 where
      pub opening : ChipAct
      pub another : ChipAct
      pub trust : Trust
      pub trust_later : Trust
      pub has_read : HasRead chip told first last acts opening trust
      pub has_read_later : HasRead chip told first last acts another trust_later
      pub order : opening.to ≤ another.to
      pub read_by : another.to ≤ m
      pub had : IsAmong p (points trust)
      pub lacks : IsAmong p (points trust_later) → ⊥

    abbrev pub ReplacedPointsNeverReturn : Type 0
    ReplacedPointsNeverReturn = (p : TrustPoint) (m : ℕ) (image : List ℕ) (v : Trust) → WasReplaced p m → MayBeLeft m image
        → trust_read image ≡ Some v → IsAmong p (points v) → ⊥
