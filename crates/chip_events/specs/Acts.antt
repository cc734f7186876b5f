-- What was done to a chip over a run: its acts, each with what it answered (this project's own).
use Rattle.std.specs.Prelude.{◌≡◌, ◌⊎◌, ◌≤◌, ℕ, List, [], ◌∷◌, Option, Some, None, Result, Bool, option_map}
use Rattle.chip_verify.specs.declared.answers.Imported.{Imported}
use Rattle.chip_verify.specs.Trust.{Trust, IsTrust}
use Rattle.chip_slots.specs.declared.answers.ChipRefusal.{ChipRefusal}
use Rattle.chip_slots.specs.declared.answers.MakeRefusal.{MakeRefusal}
use Rattle.chip_slots.specs.Image.{Reading}
use Rattle.chip_slots.specs.Acts.{Act, Deed, Made, Opened, Given, Settling, Answered, Unsettled, Found, Lost, after, trust_of}
use Rattle.chip_slots.specs.Moments.{act}

-- ---- an act

-- A call that is an act, with its answer.
pub data ChipCall : Type 0 where
  -- the chip was made with this trust, or a device failed in it
  MakeCall : Trust → Result (Unit {0}) MakeRefusal → ChipCall
  -- the chip was opened, and this trust was read
  OpenCall : Trust → ChipCall
  -- these bytes were imported, with this verdict on their signature, by the import of this number on the chip
  GiveCall : (bytes : List ℕ) → (verdict : Bool) → (number : ℕ) → Result Imported ChipRefusal → ChipCall

abbrev pub deed_of : ChipCall → Deed
deed_of (MakeCall t result) = Made t
deed_of (OpenCall t) = Opened
deed_of (GiveCall bytes verdict number result) = Given bytes verdict

-- An act, with the device calls before it and at its return.
pub record ChipAct : Type 0 where
  pub call : ChipCall
  pub from : ℕ
  pub to : ℕ
  pub settling : Settling

abbrev pub act_of : ChipAct → Act
act_of a = act (deed_of a.call) a.from a.to a.settling

-- The acts, the newest first.
abbrev pub acts_of : List ChipAct → List Act
acts_of [] = []
acts_of (a ∷ acts) = act_of a ∷ acts_of acts

-- ---- which changes stand

abbrev pub stands_with : Settling → Act → List Act → List Act
stands_with Answered a rest = a ∷ rest
stands_with Unsettled a rest = rest
stands_with (Found at) a rest = a ∷ rest
stands_with (Lost at) a rest = rest

-- The acts whose change is known to stand: those that were answered, and those that a reading found.
abbrev pub standing : List ChipAct → List Act
standing [] = []
standing (a ∷ acts) = stands_with a.settling (act_of a) (standing acts)

-- ---- a reading of all slots settles what a device failure left open

abbrev pub SettlesOne : ℕ → Settling → Settling → Type 0
SettlesOne at Unsettled s = (s ≡ Found at) ⊎ (s ≡ Lost at)
SettlesOne at Answered s = s ≡ Answered
SettlesOne at (Found n) s = s ≡ Found n
SettlesOne at (Lost n) s = s ≡ Lost n

abbrev pub Settles : ℕ → List ChipAct → List ChipAct → Type 0
Settles at [] settled = settled ≡ []
Settles at (a ∷ acts) settled =
    (s : Settling) × (rest : List ChipAct) × SettlesOne at a.settling s × Settles at acts rest
    × (settled ≡ record a { settling = s } ∷ rest)

abbrev pub trust_in : Reading → Option Trust
trust_in read = option_map (λ x. x.0) read

-- All slots were read at this number of calls: each act is settled, so that what is read stands after them.
pub record IsReadBy (at : ℕ) (read : Reading) (acts settled : List ChipAct) : Type 0 where
  pub each : Settles at acts settled
  pub agrees : trust_in read ≡ trust_of (after (standing settled))

-- ---- order

-- What came of the act was known at this number of calls.
abbrev pub IsKnownBy : ℕ → Settling → Type 0
IsKnownBy at Answered = Unit {0}
IsKnownBy at Unsettled = ⊥
IsKnownBy at (Found n) = n ≤ at
IsKnownBy at (Lost n) = n ≤ at

abbrev pub AreKnownBy : ℕ → List ChipAct → Type 0
AreKnownBy at [] = Unit {0}
AreKnownBy at (a ∷ acts) = (a.from ≤ a.to) × (a.to ≤ at) × IsKnownBy at a.settling × AreKnownBy at acts

-- Each act came of what the older ones were known to have left.
abbrev pub AreInOrder : List ChipAct → Type 0
AreInOrder [] = Unit {0}
AreInOrder (a ∷ acts) = (a.from ≤ a.to) × AreKnownBy a.to acts × AreInOrder acts

-- A making came only where no trust stood, with what may be a trust; and an opening was answered, and has read the trust
-- that stood.
abbrev pub StandsOn : ChipCall → Settling → List Act → Type 0
StandsOn (MakeCall t result) settling older = (trust_of (after older) ≡ None) × IsTrust t
StandsOn (OpenCall t) settling older = (settling ≡ Answered) × (trust_of (after older) ≡ Some t)
StandsOn (GiveCall bytes verdict number result) settling older = Unit {0}

abbrev pub AllStandOn : List ChipAct → Type 0
AllStandOn [] = Unit {0}
AllStandOn (a ∷ acts) = StandsOn a.call a.settling (standing acts) × AllStandOn acts

-- ---- membership

abbrev pub IsIn : {X : Type 0} → X → List X → Type 0
IsIn x [] = ⊥
IsIn x (y ∷ ys) = (x ≡ y) ⊎ IsIn x ys
