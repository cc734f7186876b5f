-- One chip over a run, where its own disk tells, whatever any other object does (this project's own).
use Rattle.std.specs.Prelude.{ℕ, List}
use Rattle.chip_slots.specs.declared.disk.ChipDisk.{Ghosts as DiskOf}
use Rattle.chip_events.specs.Crashes.{SurvivesCrashes}
use Rattle.chip_events.specs.Held.{IsChipOf, first_of}
use Rattle.chip_events.specs.Told.{ChipTold}
use Rattle.eac_net.specs.ChipSays.{IsTurn}
use Rattle.eac_net.specs.Goes.{Goes}
use Rattle.eac_net.specs.Items.{Ran, own_items, acks_of}

-- the items of its events lead from one state of the chip to another
abbrev pub ChipHistory : (chip : ℕ) → ChipTold → List Ran → ChipTold → Type 0
ChipHistory chip c items c' = Goes (IsTurn chip) c (own_items chip items) c'

-- The disk still tells. The items of the chip's events lead from the blank chip to what the disk tells at the end, and the chip
-- survives a crash at any moment of the run by its acts, with the acknowledgements of the whole run.
pub record ChipTells {D : Type 0} (G : DiskOf D) (chip : ℕ) (d d' : D) (items : List Ran) : Type 0 where
  pub tells : G.tells d'
  pub last : ChipTold
  pub history : ChipHistory chip (first_of G d) items last
  pub chip_at : IsChipOf G d' (G.moment d) last
  pub survive : SurvivesCrashes chip (G.told d') (G.moment d) (G.moment d') last.acts (acks_of items)
