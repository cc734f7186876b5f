-- One event line as the program runs it (this project's own).
use Rattle.std.specs.Prelude.{◌≡◌, ◌⊎◌, ℕ, List, [], ◌∷◌, ◌++◌, map, codes}
use Rattle.std.specs.Prelude.{Bool, true, false, Option, None, IsSome, Result, Ok, Err, if◌then◌else◌}
use Rattle.std.specs.Fmt.{decimal}
use Rattle.std.specs.Io.KnownBytes.{Appends}
use Rattle.eac_base.specs.Causes.{AppendsFront}
use Rattle.policy_limits.specs.Setup.{SetupValue}
use Rattle.chip_slots.specs.declared.disk.ChipDisk.{Ghosts as DiskOf}
use Rattle.eac_net.specs.ChipSteps.{StepsDisks}
use Rattle.eac_net.specs.Chips.{HasChip}
use Rattle.eac_net.specs.Items.{Ran}
use Rattle.eac_net.specs.Journal.{line_text}
use Rattle.eac_net.specs.Objects.{Outside}
use Rattle.eac_net.specs.Steps.{FitsLine, HasDay, later_day, Steps}
use Rattle.eac_net.specs.declared.event.Event.{Event}
use Rattle.eac_net.specs.declared.event.Event.TheVariants as events
use Rattle.eac_net.specs.declared.world.World.{World}
use Rattle.eac_cli.specs.declared.event.EventLine.{EventLine}
use Rattle.eac_cli.specs.declared.running.Stop.{Stop}
use Rattle.eac_cli.specs.declared.running.Stop.TheVariants.{WriteFault, NoMemory}
use Rattle.eac_cli.specs.Objects.{RunObjects, WriteFailed}

-- ---- lines

-- the events of lines, and their numbers
abbrev pub line_events : List EventLine → List Event
line_events lines = map (λ (line : EventLine). line.event) lines

abbrev pub line_numbers : List EventLine → List ℕ
line_numbers lines = map (λ (line : EventLine). line.line) lines

-- each line may be run after those before it, over so many chips
abbrev pub MayRunAll : SetupValue → (chips : ℕ) → Option ℕ → List EventLine → Type 0
MayRunAll setup chips today [] = Unit {0}
MayRunAll setup chips today (line ∷ lines) =
    HasChip chips line.event × HasDay today line.event × FitsLine setup line.event
    × MayRunAll setup chips (later_day today line.event) lines

-- ---- texts

-- what a line begins with
abbrev pub line_head : ℕ → List ℕ
line_head number = decimal number ++ codes ": "

-- every event but a `day` has a line
abbrev pub has_line : Event → Bool
has_line (events.Day day) = false
has_line (events.Ask reference bytes) = true
has_line (events.Found authority) = true
has_line (events.Link authority) = true
has_line (events.Trust party authority) = true
has_line (events.Apply holder authority root) = true
has_line (events.Fetch party desk) = true
has_line (events.Push desk party) = true
has_line (events.Send from to bytes) = true
has_line (events.Deliver packet) = true
has_line (events.Make chip authority) = true
has_line (events.Present chip terminal) = true
has_line (events.Import chip bytes) = true
has_line (events.Look chip) = true

abbrev pub head_of : EventLine → List ℕ
head_of line = if has_line line.event then line_head line.line else []

-- what ends a line that is there
abbrev pub feed_of : List ℕ → List ℕ
feed_of [] = []
feed_of (b ∷ bytes) = 10 ∷ []

-- ---- one line

module _ {D : Type 0} (G : DiskOf D) (setup : SetupValue) (line : EventLine) where
  -- The line's event ran as this item.
  pub record RunsAs (w w' : World) (o o' : Outside) (disks disks' : List D) (i : Ran) : Type 0 where
    pub event : i.event ≡ line.event
    pub step : Steps setup i w w' o o'
    pub turns : StepsDisks G i disks disks'

  -- Memory was wanting: before the event, and nothing was run; or in it.
  abbrev pub Breaks : World → World → Outside → Outside → List D → List D → Type 0
  Breaks w w' o o' disks disks' =
      ((w' ≡ w) × (o' ≡ o) × (disks' ≡ disks)) ⊎ ((i : Ran) × RunsAs w w' o o' disks disks' i × (i.answer ≡ None))

  -- how a line's text came about: that of its answer, but for the line feed; or memory was wanting
  abbrev pub Lined : {E : Type 0} → Result (List ℕ) E → World → World → Outside → Outside → List D → List D → Type 0
  Lined (Ok text) w w' o o' disks disks' =
      (i : Ran) × RunsAs w w' o o' disks disks' i × IsSome i.answer × (text ++ feed_of text ≡ line_text line.line i.answer)
  Lined (Err e) w w' o o' disks disks' = Breaks w w' o o' disks disks'

  -- the line's event between the objects of a run
  abbrev pub RunsOver : World → World → RunObjects D → RunObjects D → Ran → Type 0
  RunsOver w w' before after i = RunsAs w w' before.outside after.outside before.disks after.disks i

  -- How the running of a line ended: its journal line went out; or a front of it which is not all, and the count of
  -- failed writes rose; or memory was wanting, and nothing was written.
  abbrev pub Sent : {U : Type 0} → Result U Stop → World → World → RunObjects D → RunObjects D → Type 0
  Sent (Ok u) w w' before after =
      (i : Ran) × RunsOver w w' before after i × IsSome i.answer
      × Appends before.taken after.taken (line_text line.line i.answer) × (after.lost ≡ before.lost)
  Sent (Err WriteFault) w w' before after =
      (i : Ran) × RunsOver w w' before after i
      × AppendsFront before.taken after.taken (line_text line.line i.answer) × WriteFailed before after
  Sent (Err NoMemory) w w' before after =
      Breaks w w' before.outside after.outside before.disks after.disks × (after.taken ≡ before.taken)
      × (after.lost ≡ before.lost)
