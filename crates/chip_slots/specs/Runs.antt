-- A chip over a run of calls: what its acts leave, what its disk holds and what it has in hand (this project's own).
use Rattle.std.specs.Prelude.{◌≡◌, ◌≤◌, ℕ, List, [], ◌∷◌, Some, None, Result, Ok, Err, false}
use Rattle.chip_verify.specs.declared.answers.Imported.{Imported}
use Rattle.chip_slots.specs.declared.answers.ChipRefusal.{ChipRefusal}
use Rattle.chip_slots.specs.declared.answers.ChipRefusal.TheVariants as refusal
use Rattle.chip_slots.specs.Crash.{Standing, Crash}
use Rattle.chip_slots.specs.Image.{reads}
use Rattle.chip_slots.specs.Ready.{IsStable}
use Rattle.chip_slots.specs.Acts.{Act, Settling, Answered, Unsettled, Found, Lost, after}
use Rattle.chip_slots.specs.Chips.{ChipValue, read_as}
use Rattle.chip_slots.specs.Moments.{Kept}

-- No image that a crash could leave reads as a state.
abbrev pub IsBlank : Standing → Type 0
IsBlank s = (image : List ℕ) → Crash s image → reads image ≡ None

-- The chip in hand stands for its disk: each image so far is read as its acts say, it holds what they leave, and each
-- image now reads as it.
pub record StandsFor (told : ℕ → Standing) (first calls : ℕ) (acts taken : List Act) (c : ChipValue) : Type 0 where
  pub kept : Kept told first calls acts taken
  pub chip : after taken ≡ Some (c.state, c.session)
  pub disk : IsStable (read_as c) (told calls)
  pub ready : c.needs_opening ≡ false

-- The import was answered by Ok or by a refusal of the certificate, so that it is an act whose change stands.
abbrev pub IsAnswer : Result Imported ChipRefusal → Type 0
IsAnswer (Ok what) = Unit {0}
IsAnswer (Err (refusal.Syntax e)) = Unit {0}
IsAnswer (Err (refusal.Refused k)) = Unit {0}
IsAnswer (Err refusal.NoChip) = ⊥
IsAnswer (Err refusal.DiskFault) = ⊥
IsAnswer (Err refusal.ProviderFault) = ⊥
IsAnswer (Err refusal.NeedsOpen) = ⊥
IsAnswer (Err refusal.Worn) = ⊥

-- ---- what was settled

-- What came of an act was known at this number of calls.
abbrev pub IsSettledBy : ℕ → Settling → Type 0
IsSettledBy calls Answered = Unit {0}
IsSettledBy calls Unsettled = ⊥
IsSettledBy calls (Found at) = at ≤ calls
IsSettledBy calls (Lost at) = at ≤ calls

-- Each act had begun by this number of calls, and was settled.
abbrev pub AreSettledBy : ℕ → List Act → Type 0
AreSettledBy calls [] = Unit {0}
AreSettledBy calls (a ∷ acts) = (a.from ≤ calls) × IsSettledBy calls a.settling × AreSettledBy calls acts
