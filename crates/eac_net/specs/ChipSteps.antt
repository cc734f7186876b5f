-- One event over the chips' disks (this project's own).
use Rattle.std.specs.Prelude.{◌≡◌, ℕ, List, Some, true, false, Result, slice_get}
use Rattle.chip_slots.specs.declared.disk.ChipDisk.{Ghosts as DiskOf}
use Rattle.chip_events.specs.DiskTurns.{HasCounts}
use Rattle.chip_events.specs.Held.{IsChipOf}
use Rattle.chip_events.specs.Told.{ChipTold}
use Rattle.policy_limits.specs.Setup.{SetupValue}
use Rattle.eac_net.specs.ChipSays.{IsTurn}
use Rattle.eac_net.specs.Chips.{is_chip_of}
use Rattle.eac_net.specs.Items.{Ran}
use Rattle.eac_net.specs.Objects.{Outside}
use Rattle.eac_net.specs.Steps.{Steps, Said}
use Rattle.eac_net.specs.declared.event.Event.{Event}
use Rattle.eac_net.specs.declared.world.World.{World}

-- The disk of the item's chip: where it tells, it still does, and each state of the chip before it leads by the item to one
-- after it, which accounts for every image of every moment since.
pub record TurnsDisk {D : Type 0} (G : DiskOf D) (chip : ℕ) (i : Ran) (d d' : D) : Type 0 where
  pub tells : G.tells d → G.tells d'
  pub told : G.tells d → (first : ℕ) (c : ChipTold) → IsChipOf G d first c → HasCounts (i.from.disks chip) (i.from.imports chip) c →
      (c' : ChipTold) × IsTurn chip c i c' × IsChipOf G d' first c'

-- The disks before and after an item. That of its chip turns by it; each other one is the same.
pub record StepsDisks {D : Type 0} (G : DiskOf D) (i : Ran) (disks disks' : List D) : Type 0 where
  pub own : (chip : ℕ) (d d' : D) → is_chip_of chip i.event ≡ true → slice_get disks chip ≡ Some d → slice_get disks' chip ≡ Some d' →
      TurnsDisk G chip i d d'
  pub others : (chip : ℕ) → is_chip_of chip i.event ≡ false → slice_get disks' chip ≡ slice_get disks chip
  pub there : (chip : ℕ) (d' : D) → slice_get disks' chip ≡ Some d' → (d : D) × (slice_get disks chip ≡ Some d)

-- Some item is what this event did between these objects, with or without a told one among them, and its answer is what was
-- appended to the text.
pub record HasRun {D E : Type 0} (G : DiskOf D) (setup : SetupValue) (event : Event) (r : Result (Unit {0}) E)
    (before after : World × List ℕ) (o o' : Outside) (disks disks' : List D) : Type 0 where
  pub item : Ran
  pub event_is : item.event ≡ event
  pub steps : Steps setup item before.0 after.0 o o'
  pub disks_turn : StepsDisks G item disks disks'
  pub said : Said r item.answer before.1 after.1
