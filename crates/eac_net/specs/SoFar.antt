-- What stands between two events of a run (this project's own): what a loop over events keeps.
use Rattle.std.specs.Prelude.{◌≡◌, ℕ, List, [], Some, IsSome, slice_get}
use Rattle.std.specs.List.{All}
use Rattle.eac_base.specs.Telling.{Told}
use Rattle.signature_provider.specs.Provider.{IsHonest}
use Rattle.policy_limits.specs.Setup.{SetupValue}
use Rattle.keeper.specs.declared.rows.Row.{Row}
use Rattle.chip_slots.specs.Runs.{IsBlank}
use Rattle.chip_slots.specs.declared.disk.ChipDisk.{Ghosts as DiskOf}
use Rattle.chip_events.specs.DiskTurns.{HasCounts}
use Rattle.chip_events.specs.Held.{IsChipOf, first_of}
use Rattle.chip_events.specs.Told.{ChipTold}
use Rattle.eac_net.specs.ChipHistory.{ChipHistory}
use Rattle.eac_net.specs.Items.{Ran, answers_of, asked_of, acks_of}
use Rattle.eac_net.specs.Lawful.{AreLawful}
use Rattle.eac_net.specs.Made.{all_made, AreGood}
use Rattle.eac_net.specs.Moment.{Moment, AllHeld}
use Rattle.eac_net.specs.Objects.{Outside, moment_at, first_moment, IsAt, IsTracedAt}
use Rattle.eac_net.specs.Packets.{AreBetween}
use Rattle.eac_net.specs.State.{State, first_state}
use Rattle.eac_net.specs.Tracing.{IsTracedYes}
use Rattle.eac_net.specs.Turn.{History}
use Rattle.eac_net.specs.Untold.{AreRan}
use Rattle.eac_net.specs.declared.world.World.{World}

-- where a run may begin: rows that are none are so
pub record IsStart (setup : SetupValue) (o : Outside) (rows : List Row) : Type 0 where
  pub lawful : AreLawful setup rows
  pub held : AllHeld o.holds rows
  pub good : AreGood o.says (all_made setup rows)

abbrev pub begin : Outside → List Row → State
begin o before = first_state before o.keeper_faults o.provider_faults

-- an honest provider that had signed nothing
abbrev pub IsFresh : Outside → Type 0
IsFresh o = (o.signed ≡ Some []) × IsHonest o.says o.signed

-- Some state to which the items lead is that of the objects. Where every item was answered nothing is dropped. From a fresh
-- provider on, what was signed is traced, and so is each yes.
pub record Reached (setup : SetupValue) (o : Outside) (w : World) (o' : Outside) (items : List Ran) (before after : List Row) : Type 0 where
  pub state : State
  pub history : History setup (begin o before) items state
  pub there : IsAt setup w o' after state
  pub dropped : All IsSome (answers_of items) → state.dropped ≡ []
  pub signed : IsFresh o → IsTracedAt o' after state
  pub traced : IsFresh o → All (IsTracedYes after state.lost) (asked_of items)

-- A disk of which no image reads as a chip's state, whatever a crash leaves.
abbrev pub IsBlankDisk : {D : Type 0} → DiskOf D → D → Type 0
IsBlankDisk G d = IsBlank (G.told d (G.moment d))

-- The disk still tells, and some state to which the items of its chip lead is what it tells.
pub record Kept {D : Type 0} (G : DiskOf D) (chip : ℕ) (k : Moment) (items : List Ran) (d d' : D) : Type 0 where
  pub tells : G.tells d'
  pub state : ChipTold
  pub history : ChipHistory chip (first_of G d) items state
  pub there : IsChipOf G d' (G.moment d) state
  pub known : HasCounts (k.disks chip) (k.imports chip) state

-- These items ran from the first objects, without a day, a packet and an import, to those that stand now. Each told disk
-- keeps its chip's history, whatever the other objects tell.
pub record SoFar {D : Type 0} (G : DiskOf D) (setup : SetupValue) (o : Outside) (disks : List D) (w : World) (o' : Outside)
    (disks' : List D) (items : List Ran) : Type 0 where
  pub ran : AreRan setup (first_moment o) items (moment_at w o')
  pub rows : Told o.rows o'.rows (λ before after. IsStart setup o before → Reached setup o w o' items before after)
  pub chips : (chip : ℕ) (d d' : D) → slice_get disks chip ≡ Some d → slice_get disks' chip ≡ Some d' → G.tells d →
      IsBlankDisk G d → Kept G chip (moment_at w o') items d d'
  pub acks : w.acks.acks ≡ acks_of items
  pub parties : AreBetween setup w.packets
