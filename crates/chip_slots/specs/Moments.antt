-- What holds of a chip between two calls, for every image at every moment so far (this project's own).
use Rattle.std.specs.Prelude.{◌≡◌, ◌≤◌, ◌⊎◌, ℕ, List, [], ◌∷◌, Option, None}
use Rattle.chip_verify.specs.Trust.{Trust}
use Rattle.chip_slots.specs.Image.{trust_read}
use Rattle.chip_slots.specs.Crash.{Standing, Crash}
use Rattle.chip_slots.specs.Acts.{Deed, Settling, Unsettled, Act, does, after, trust_of, MayStand, IsTaken, IsSure}

-- a trust that an image may be read as: after an act that stands, where no later one is sure
abbrev pub MayRead : List Act → ℕ → Option Trust → Type 0
MayRead [] m o = o ≡ None
MayRead (a ∷ acts) m o =
    ((taken : List Act) × (a.from ≤ m) × MayStand a.settling m × IsTaken acts m taken × (o ≡ trust_of (does a.deed (after taken))))
    ⊎ ((IsSure a m → ⊥) × MayRead acts m o)

abbrev pub act : Deed → ℕ → ℕ → Settling → Act
act deed from to settling = record { deed = deed; from = from; to = to; settling = settling }

-- Each image at each of these moments is so, by its moment.
abbrev pub EachFrom : (ℕ → Standing) → ℕ → ℕ → (ℕ → List ℕ → Type 0) → Type 0
EachFrom told from to P = (moment : ℕ) (image : List ℕ) → from ≤ moment → moment ≤ to → Crash (told moment) image → P moment image

-- Between two acts: each image so far is read as it may be, and each image now as after the acts that are taken.
pub record Kept (told : ℕ → Standing) (first calls : ℕ) (acts taken : List Act) : Type 0 where
  pub standing : (m : ℕ) → calls ≤ m → IsTaken acts m taken
  pub each : EachFrom told first calls (λ m c. MayRead acts m (trust_read c))
  pub now : (c : List ℕ) → Crash (told calls) c → trust_read c ≡ trust_of (after taken)

-- The same after an act that a device failure left open: an image now is read as after it or as before it.
pub record Open (told : ℕ → Standing) (first calls : ℕ) (acts taken : List Act) (deed : Deed) (from to : ℕ) : Type 0 where
  pub standing : (m : ℕ) → calls ≤ m → IsTaken acts m taken
  pub begun : from ≤ calls
  pub each : EachFrom told first calls (λ m c. MayRead (act deed from to Unsettled ∷ acts) m (trust_read c))
  pub now : (c : List ℕ) → Crash (told calls) c → (trust_read c ≡ trust_of (after taken)) ⊎ (trust_read c ≡ trust_of (does deed (after taken)))
