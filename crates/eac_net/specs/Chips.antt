-- The chips of a run, by their numbers (this project's own).
use Rattle.std.specs.Prelude.{◌==◌, ◌<◌, ℕ, List, Option, Some, None, Bool, false, slice_get}
use Rattle.chip_slots.specs.declared.disk.ChipDisk.{Ghosts as DiskOf}
use Rattle.chip_events.specs.DiskTurns.{DiskKnown, counts_of}
use Rattle.eac_net.specs.declared.event.Event.{Event}
use Rattle.eac_net.specs.declared.event.Event.TheVariants as events

-- ---- what is known of their disks whatever they tell

abbrev pub known_at : {D : Type 0} → DiskOf D → Option D → DiskKnown
known_at G (Some d) = counts_of G d
known_at G None = record { size = 0; calls = 0; faults = 0 }

abbrev pub known_of : {D : Type 0} → DiskOf D → List D → ℕ → DiskKnown
known_of G disks chip = known_at G (slice_get disks chip)

-- ---- which chip an event is of

abbrev pub chip_in : Event → Option ℕ
chip_in (events.Make chip authority) = Some chip
chip_in (events.Present chip terminal) = Some chip
chip_in (events.Import chip bytes) = Some chip
chip_in (events.Look chip) = Some chip
chip_in (events.Day day) = None
chip_in (events.Ask reference bytes) = None
chip_in (events.Found authority) = None
chip_in (events.Link authority) = None
chip_in (events.Trust party authority) = None
chip_in (events.Apply holder authority root) = None
chip_in (events.Fetch party desk) = None
chip_in (events.Send from to bytes) = None
chip_in (events.Push desk party) = None
chip_in (events.Deliver packet) = None

abbrev pub is_this : ℕ → Option ℕ → Bool
is_this chip (Some other) = chip == other
is_this chip None = false

-- the event is one of this chip
abbrev pub is_chip_of : ℕ → Event → Bool
is_chip_of chip event = is_this chip (chip_in event)

-- the event's chip, where it has one, is one of so many
abbrev pub IsBelow : ℕ → Option ℕ → Type 0
IsBelow chips (Some chip) = chip < chips
IsBelow chips None = Unit {0}

abbrev pub HasChip : ℕ → Event → Type 0
HasChip chips event = IsBelow chips (chip_in event)
