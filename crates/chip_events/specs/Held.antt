-- That what is told of a chip is true of its disk, and accounts for every image since the run began (this project's own).
use Rattle.std.specs.Prelude.{◌≡◌, ◌≤◌, ℕ, List, [], ◌∷◌, Some, false}
use Rattle.chip_slots.specs.declared.disk.ChipDisk.{Ghosts as DiskOf}
use Rattle.chip_slots.specs.Crash.{Standing, IsClean}
use Rattle.chip_slots.specs.Image.{reads, trust_read}
use Rattle.chip_slots.specs.Acts.{Settling, Answered, Unsettled, Found, Lost, after}
use Rattle.chip_slots.specs.Chips.{read_as}
use Rattle.chip_slots.specs.Moments.{Kept, Open}
use Rattle.chip_events.specs.Acts.{ChipAct, ChipCall, MakeCall, OpenCall, GiveCall, deed_of, acts_of, standing}
use Rattle.chip_events.specs.Acts.{AreKnownBy, AreInOrder, AllStandOn}
use Rattle.chip_events.specs.Imports.{InHand}
use Rattle.chip_events.specs.Told.{ChipTold, first_chip}

-- ---- one chip

-- Each image so far is read as it may be after these acts; and each one now as after those that stand, or also as after
-- the newest, where a device failure left that one open.
abbrev pub IsHeldAs : Settling → (ℕ → Standing) → (first calls : ℕ) → ChipAct → List ChipAct → Type 0
IsHeldAs Answered told first calls a acts = Kept told first calls (acts_of (a ∷ acts)) (standing (a ∷ acts))
IsHeldAs (Found at) told first calls a acts = Kept told first calls (acts_of (a ∷ acts)) (standing (a ∷ acts))
IsHeldAs (Lost at) told first calls a acts = Kept told first calls (acts_of (a ∷ acts)) (standing (a ∷ acts))
IsHeldAs Unsettled told first calls a acts = Open told first calls (acts_of acts) (standing acts) (deed_of a.call) a.from a.to

abbrev pub AreHeld : (ℕ → Standing) → (first calls : ℕ) → List ChipAct → Type 0
AreHeld told first calls [] = Kept told first calls [] []
AreHeld told first calls (a ∷ acts) = IsHeldAs a.settling told first calls a acts

-- The settling, if there is one, was by this number of calls.
abbrev pub IsUntil : ℕ → Settling → Type 0
IsUntil calls Answered = Unit {0}
IsUntil calls Unsettled = Unit {0}
IsUntil calls (Found at) = at ≤ calls
IsUntil calls (Lost at) = at ≤ calls

abbrev pub AreUntil : ℕ → List ChipAct → Type 0
AreUntil calls [] = Unit {0}
AreUntil calls (a ∷ acts) = (a.to ≤ calls) × IsUntil calls a.settling × AreUntil calls acts

-- What an opening has read is what the disk read as when it returned.
abbrev pub IsReadAs : (ℕ → Standing) → ℕ → ChipCall → Type 0
IsReadAs told at (OpenCall t) = trust_read (told at).bytes ≡ Some t
IsReadAs told at (MakeCall t result) = Unit {0}
IsReadAs told at (GiveCall bytes verdict number result) = Unit {0}

abbrev pub AreReadAs : (ℕ → Standing) → List ChipAct → Type 0
AreReadAs told [] = Unit {0}
AreReadAs told (a ∷ acts) = IsReadAs told a.to a.call × AreReadAs told acts

-- Each act returned at this number of calls or later.
abbrev pub AreSince : ℕ → List ChipAct → Type 0
AreSince first [] = Unit {0}
AreSince first (a ∷ acts) = (first ≤ a.to) × AreSince first acts

-- The chip is what its disk tells, with acts that account for each image at each moment from the first on.
pub record IsChipAt (told : ℕ → Standing) (size calls faults first : ℕ) (c : ChipTold) : Type 0 where
  pub size_is : c.size ≡ size
  pub calls_are : c.calls ≡ calls
  pub faults_are : c.faults ≡ faults
  pub reads_as : c.reads ≡ reads (told calls).bytes
  pub begun : first ≤ calls
  pub since : AreSince first c.acts
  pub images : AreHeld told first calls c.acts
  pub order : AreInOrder c.acts
  pub until : AreUntil calls c.acts
  pub stand_on : AllStandOn c.acts
  pub openings : AreReadAs told c.acts

-- What is in hand is what the disk tells: no act is open, all is on the disk, and the chip as it was opened and moved since
-- stands for what the disk holds and for what the acts left.
pub record IsInHand (told : ℕ → Standing) (size calls faults first : ℕ) (w : InHand) : Type 0 where
  pub chip_at : IsChipAt told size calls faults first w.chip
  pub settled : AreKnownBy calls w.chip.acts
  pub read : w.chip.reads ≡ read_as w.opened
  pub clean : IsClean (told calls)
  pub stands : after (standing w.chip.acts) ≡ Some (w.opened.state, w.opened.session)
  pub ready : w.opened.needs_opening ≡ false

-- ---- one disk

abbrev pub IsChipOf : {D : Type 0} → DiskOf D → D → ℕ → ChipTold → Type 0
IsChipOf G d first c = IsChipAt (G.told d) (G.size d) (G.moment d) (G.faults d) first c

-- The chip before a run, by its disk.
abbrev pub first_of : {D : Type 0} → DiskOf D → D → ChipTold
first_of G d = first_chip (G.size d) (G.moment d) (G.faults d)
