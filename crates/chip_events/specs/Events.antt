-- What the events of a chip do to what is told of that chip (this project's own). Which certificates come, and from which
-- rows, is left to the layers above.
use Rattle.std.specs.Prelude.{◌≡◌, ◌⊎◌, ℕ, List, Result, Ok, Err}
use Rattle.chip_verify.specs.Trust.{Trust}
use Rattle.chip_slots.specs.declared.answers.ChipRefusal.{ChipRefusal}
use Rattle.chip_slots.specs.Chips.{ChipValue}
use Rattle.chip_events.specs.declared.answers.Looked.{Looked}
use Rattle.chip_events.specs.declared.answers.Looked.TheVariants as looks
use Rattle.chip_events.specs.declared.answers.Taken.{Taken}
use Rattle.chip_events.specs.declared.answers.ImportAnswer.{ImportAnswer}
use Rattle.chip_events.specs.declared.answers.ImportAnswer.TheVariants as imports
use Rattle.chip_events.specs.declared.answers.Shown.{Shown}
use Rattle.chip_events.specs.Told.{ChipTold, ChipPart}
use Rattle.chip_events.specs.Openings.{Opens}
use Rattle.chip_events.specs.Imports.{InHand}
use Rattle.chip_events.specs.Givings.{Gives, ShowsAll, in_hand, put_back}

-- ---- `look`

abbrev pub looked_in : Looked → Result (Trust × ℕ) ChipRefusal
looked_in (looks.Read state generation) = Ok (state, generation)
looked_in (looks.NotOpened e) = Err e

abbrev pub looked_as : Result ChipValue ChipRefusal → Looked
looked_as (Ok o) = looks.Read o.state o.generation
looked_as (Err e) = looks.NotOpened e

-- The chip was opened and told. Where memory was wanting, nothing was done.
abbrev pub Looks : {E : Type 0} → ChipTold → Result Looked E → ChipTold → Type 0
Looks c (Ok looked) c' = Opens c (looked_in looked) c'
Looks c (Err e) c' = c' ≡ c

-- ---- what comes after an opening

-- The chip was opened, and this is in hand.
pub record IsOpenedFirst (s : ChipPart) (w : InHand) : Type 0 where
  pub read : Trust × ℕ
  pub now : ChipTold
  pub opens : Opens s.chip (Ok read) now
  pub hand : w ≡ in_hand s now read

-- It was opened, and nothing came after it.
pub record IsOpenedAlone (s s' : ChipPart) : Type 0 where
  pub hand : InHand
  pub first : IsOpenedFirst s hand
  pub next : s' ≡ put_back hand

-- ---- `import`

-- The chip was opened, and given this certificate.
pub record IsGiven (chip : ℕ) (bytes : List ℕ) (s : ChipPart) (result : Result Taken ChipRefusal) (left : InHand)
    (s' : ChipPart) : Type 0 where
  pub hand : InHand
  pub first : IsOpenedFirst s hand
  pub gives : Gives chip hand bytes result left
  pub next : s' ≡ put_back left

abbrev pub GivesOne : (chip : ℕ) → List ℕ → ChipPart → ImportAnswer → ChipPart → Type 0
GivesOne chip bytes s (imports.NotOpened e) s' = (c : ChipTold) × Opens s.chip (Err e) c × (s' ≡ record s { chip = c })
GivesOne chip bytes s (imports.Took taken day) s' =
    (left : InHand) × IsGiven chip bytes s (Ok taken) left s' × (day ≡ left.opened.state.day)
GivesOne chip bytes s (imports.NotTaken e) s' = (left : InHand) × IsGiven chip bytes s (Err e) left s'

-- Where memory was wanting, nothing was done but perhaps the opening.
abbrev pub ImportsOne : {E : Type 0} → (chip : ℕ) → List ℕ → ChipPart → Result ImportAnswer E → ChipPart → Type 0
ImportsOne chip bytes s (Ok answer) s' = GivesOne chip bytes s answer s'
ImportsOne chip bytes s (Err e) s' = (s' ≡ s) ⊎ IsOpenedAlone s s'

-- ---- `present`

-- The chip was opened, and shown these certificates.
pub record Presents {E : Type 0} (chip : ℕ) (certs : List (List ℕ)) (s : ChipPart) (result : Result Shown E)
    (s' : ChipPart) : Type 0 where
  pub hand : InHand
  pub first : IsOpenedFirst s hand
  pub left : InHand
  pub shows : ShowsAll chip hand certs result left
  pub next : s' ≡ put_back left
