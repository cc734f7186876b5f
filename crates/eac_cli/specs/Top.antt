-- What the top call did, by its status (this project's own).
use Rattle.std.specs.Prelude.{◌≡◌, ◌≢◌, ◌⊎◌, ℕ, ◌+◌, ◌<◌, ◌≤◌, List, [], ◌∷◌, ◌++◌, length, take, codes, Option}
use Rattle.std.specs.Prelude.{Some, None, IfSome, IsSome, slice_get, if◌then◌else◌}
use Rattle.std.specs.List.{All}
use Rattle.std.specs.Io.KnownBytes.{Consumes, IsAtEnd, Appends}
use Rattle.std.specs.Str.{bytes_eq}
use Rattle.eac_base.specs.Causes.{Rose, AppendsFront}
use Rattle.eac_base.specs.Streaming.{TurnsAtMost}
use Rattle.eac_base.specs.declared.acks.Ack.{Ack}
use Rattle.chip_slots.specs.declared.disk.ChipDisk.{Ghosts as DiskOf}
use Rattle.policy_limits.specs.Setup.{SetupValue}
use Rattle.eac_net.specs.Journal.{journal, line_text}
use Rattle.eac_net.specs.declared.answer.Answer.{Answer}
use Rattle.headline.specs.Headline.{Headline}
use Rattle.eac_cli.specs.declared.event.EventLine.{EventLine}
use Rattle.eac_cli.specs.declared.running.Stop.{Stop}
use Rattle.eac_cli.specs.declared.running.Stop.TheVariants.{WriteFault as StopWriteFault, NoMemory as StopNoMemory}
use Rattle.eac_cli.specs.declared.tool.Command.{Command}
use Rattle.eac_cli.specs.declared.tool.Command.TheVariants.{Run, Show, Plan}
use Rattle.eac_cli.specs.declared.tool.Status.{Status}
use Rattle.eac_cli.specs.declared.tool.Status.TheVariants.{Done, Usage, ScriptFault, TooLong, ReadFault, WriteFault}
use Rattle.eac_cli.specs.declared.tool.Status.TheVariants.{NoMemory}
use Rattle.eac_cli.specs.Objects.{RunObjects, Objects, ReadFailed, WriteFailed}
use Rattle.eac_cli.specs.Script.{IsScript, IsFault}
use Rattle.eac_cli.specs.Show.{show_text}
use Rattle.eac_cli.specs.Steps.{line_events, line_numbers}

-- ---- commands

abbrev pub command_named : List ℕ → Option Command
command_named word =
    if bytes_eq word (codes "run") then Some Run else if bytes_eq word (codes "show") then Some Show
    else if bytes_eq word (codes "plan") then Some Plan else None

-- the command that these words are, if they are one
abbrev pub command_of : List (List ℕ) → Option Command
command_of (word ∷ []) = command_named word
command_of other = None

-- ---- by status

-- What the sink took: these journal lines, and of the line of the last answer a front which is not all of it, since a
-- write failed; or these lines alone, since memory was wanting in the last event or before it, and no write failed.
abbrev pub SentUntil : {D : Type 0} → RunObjects D → RunObjects D → Stop → List ℕ → ℕ → List (Option Answer) → Type 0
SentUntil before after StopWriteFault lines number last =
    (answer : Option Answer) × (last ≡ answer ∷ []) × (n : ℕ) × (n < length (line_text number answer))
    × Appends before.taken after.taken (lines ++ take n (line_text number answer)) × WriteFailed before after
SentUntil before after StopNoMemory lines number last =
    ((last ≡ []) ⊎ (last ≡ None ∷ [])) × Appends before.taken after.taken lines × (after.lost ≡ before.lost)

-- the most bytes that are read
abbrev pub most_input : ℕ
most_input = 4194304

-- These bytes were read: they went off the front of what the source had, at most one of them past the limit, and each
-- read but the last took one at least.
pub record WereRead (left left' : Option (List ℕ)) (reads reads' : Option ℕ) (bytes : List ℕ) : Type 0 where
  pub taken : Consumes left left' bytes
  pub most : length bytes ≤ most_input + 1
  pub turns : TurnsAtMost reads reads' (length bytes + 1)

-- all that the source had was read, and it is within the limit
abbrev pub WasRead : Option (List ℕ) → List ℕ → Type 0
WasRead left bytes = IsAtEnd left × (length bytes ≤ most_input)

-- The bytes are a script over so many chips that was read whole, and its lines were run so in its setup.
pub record Ran (left : Option (List ℕ)) (bytes : List ℕ) (chips : ℕ) (Did : SetupValue → List EventLine → Type 0)
    : Type 0 where
  pub read : WasRead left bytes
  pub setup : SetupValue
  pub lines : List EventLine
  pub script : IsScript bytes chips setup lines
  pub did : Did setup lines

-- What a run did. Its events were run from no day, no packet and no import on.
module _ {D : Type 0} (G : DiskOf D) (setup : SetupValue) (before after : RunObjects D) where
  -- These events were run so, and these imports were acknowledged: all that is promised of a run stands.
  abbrev pub RunsTo : List Ack → List EventLine → List (Option Answer) → Type 0
  RunsTo acks lines answers =
      Headline G setup before.outside after.outside before.disks after.disks acks (line_events lines) answers

  -- All lines were run, and the journal of their answers went out. No write failed.
  pub record Whole (lines : List EventLine) (done : ℕ) (acks : List Ack) : Type 0 where
    pub answers : List (Option Answer)
    pub all : done ≡ length lines
    pub ended : All IsSome answers
    pub run : RunsTo acks lines answers
    pub sent : Appends before.taken after.taken (journal (line_numbers lines) answers)
    pub quiet : after.lost ≡ before.lost

  -- The first lines were run, and their journal lines went out whole. The run stopped at the next line: in its event,
  -- which is the last one then, or with its journal line; or before its event. What was acknowledged counts in each case.
  pub record Stopped (stop : Stop) (lines : List EventLine) (done : ℕ) (acks : List Ack) : Type 0 where
    pub answers : List (Option Answer)
    pub line : EventLine
    pub last : List (Option Answer)
    pub next : slice_get lines done ≡ Some line
    pub count : length answers ≡ done
    pub ended : All IsSome answers
    pub run : RunsTo acks (take (done + length last) lines) (answers ++ last)
    pub sent : SentUntil before after stop (journal (line_numbers (take done lines)) answers) line.line last

-- nothing was run, no import was acknowledged, and sink, chips, keeper and provider are as they were
abbrev pub Nothing : {D : Type 0} → RunObjects D → RunObjects D → (done : ℕ) → List Ack → Type 0
Nothing before after done acks = (done ≡ 0) × (acks ≡ []) × (after ≡ before)

-- what a call did with sink, chips, keeper and provider
module _ {D : Type 0} (G : DiskOf D) (before after : RunObjects D) where
  -- the bytes are a script over these chips, and its lines were run so
  abbrev pub RanSo : Option (List ℕ) → List ℕ → (Did : SetupValue → List EventLine → Type 0) → Type 0
  RanSo left bytes Did = Ran left bytes (length before.disks) Did

  -- what stands for each status, where the source has this left and these bytes were read
  abbrev pub Claim : Option (List ℕ) → Status → ℕ → List Ack → List ℕ → Type 0
  Claim left Done done acks bytes = RanSo left bytes (λ setup lines. Whole G setup before after lines done acks)
  Claim left Usage done acks bytes = ⊥
  Claim left (ScriptFault line rule) done acks bytes =
      WasRead left bytes × IsFault bytes (length before.disks) line rule × Nothing before after done acks
  Claim left TooLong done acks bytes = (most_input < length bytes) × Nothing before after done acks
  Claim left ReadFault done acks bytes = Nothing before after done acks
  Claim left WriteFault done acks bytes =
      RanSo left bytes (λ setup lines. Stopped G setup before after StopWriteFault lines done acks)
  Claim left NoMemory done acks bytes =
      Nothing before after done acks ⊎ RanSo left bytes (λ setup lines. Stopped G setup before after StopNoMemory lines done acks)

-- ---- `show`

-- What stands for each status of `show`, by what the sink had taken before and after, where the source has this left
-- and these bytes were read: the text that is printed of them, or a front of it.
abbrev pub Shows : (old new left : Option (List ℕ)) → Status → List ℕ → Type 0
Shows old new left Done bytes = WasRead left bytes × Appends old new (show_text bytes)
Shows old new left Usage bytes = ⊥
Shows old new left (ScriptFault line rule) bytes = ⊥
Shows old new left TooLong bytes = (most_input < length bytes) × (new ≡ old)
Shows old new left ReadFault bytes = new ≡ old
Shows old new left WriteFault bytes = WasRead left bytes × AppendsFront old new (show_text bytes)
Shows old new left NoMemory bytes = new ≡ old

-- ---- what has to come of a source that tells its bytes

-- Where no read and no write failed, a script within the limit is run to its end, but for want of memory.
abbrev pub IsComplete : List ℕ → (chips : ℕ) → (read written : Type 0) → Status → Type 0
IsComplete bytes chips read written status =
    (setup : SetupValue) (lines : List EventLine) → IsScript bytes chips setup lines → length bytes ≤ most_input
    → ¬ read → ¬ written → (status ≡ Done) ⊎ (status ≡ NoMemory)

-- Where no read failed, a fault of the script within the limit is told, but for want of memory.
abbrev pub TellsFault : List ℕ → (chips : ℕ) → (read : Type 0) → Status → Type 0
TellsFault bytes chips read status =
    (line rule : ℕ) → IsFault bytes chips line rule → length bytes ≤ most_input
    → ¬ read → (status ≡ ScriptFault line rule) ⊎ (status ≡ NoMemory)

-- Where no read failed, more bytes than the limit are too long, but for want of memory.
abbrev pub TellsLength : List ℕ → (read : Type 0) → Status → Type 0
TellsLength bytes read status = most_input < length bytes → ¬ read → (status ≡ TooLong) ⊎ (status ≡ NoMemory)

-- Where no read and no write failed, what is within the limit is shown, but for want of memory.
abbrev pub IsShown : List ℕ → (read written : Type 0) → Status → Type 0
IsShown bytes read written status =
    length bytes ≤ most_input → ¬ read → ¬ written → (status ≡ Done) ⊎ (status ≡ NoMemory)

-- ---- one call

-- One call of `run`, from the objects before it to those after it.
pub record RunCall {D : Type 0} (G : DiskOf D) (before after : Objects D) (status : Status) (done : ℕ) (acks : List Ack)
    : Type 0 where
  -- the bytes that were read, and by the status what was done with them
  pub claim : (bytes : List ℕ) × WereRead before.left after.left before.reads after.reads bytes
      × Claim G before.run after.run after.left status done acks bytes
  -- where the source tells its bytes, a script is run, a fault is told, and too much is too long
  pub complete : IfSome before.left (λ bytes.
      IsComplete bytes (length before.run.disks) (ReadFailed before after) (WriteFailed before.run after.run) status)
  pub faulty : IfSome before.left (λ bytes. TellsFault bytes (length before.run.disks) (ReadFailed before after) status)
  pub too_long : IfSome before.left (λ bytes. TellsLength bytes (ReadFailed before after) status)

-- One call of `show`, from the objects before it to those after it.
pub record ShowCall {D : Type 0} (before after : Objects D) (status : Status) : Type 0 where
  -- the bytes that were read, and by the status what was printed of them
  pub shows : (bytes : List ℕ) × WereRead before.left after.left before.reads after.reads bytes
      × Shows before.run.taken after.run.taken after.left status bytes
  -- where the source tells its bytes, they are shown, and too much is too long
  pub shown : IfSome before.left
      (λ bytes. IsShown bytes (ReadFailed before after) (WriteFailed before.run after.run) status)
  pub too_long : IfSome before.left (λ bytes. TellsLength bytes (ReadFailed before after) status)

-- The count rose where this status is told, and stands as it was under any other.
abbrev pub RoseFor : (told status : Status) → (before now : ℕ) → Type 0
RoseFor told status before now = (status ≡ told → Rose before now) × (status ≢ told → now ≡ before)

-- Nothing is asked of sink, chips, keeper and provider under these statuses: the input isn't run.
abbrev pub RunsNothing : Status → Type 0
RunsNothing Usage = Unit {0}
RunsNothing (ScriptFault line rule) = Unit {0}
RunsNothing TooLong = Unit {0}
RunsNothing ReadFault = Unit {0}
RunsNothing Done = ⊥
RunsNothing WriteFault = ⊥
RunsNothing NoMemory = ⊥

-- ---- small words of the program's functions

abbrev pub status_of : Option Stop → Status
status_of None = Done
status_of (Some StopWriteFault) = WriteFault
status_of (Some StopNoMemory) = NoMemory

-- a run of bytes ends with these statuses alone, and the sink's count rose where it is `WriteFault`, and only there
abbrev pub IsRunStatus : Status → (before now : ℕ) → Type 0
IsRunStatus Done before now = now ≡ before
IsRunStatus (ScriptFault line rule) before now = now ≡ before
IsRunStatus NoMemory before now = now ≡ before
IsRunStatus WriteFault before now = Rose before now
IsRunStatus Usage before now = ⊥
IsRunStatus TooLong before now = ⊥
IsRunStatus ReadFault before now = ⊥

abbrev pub number_of_status : Status → ℕ
number_of_status Done = 0
number_of_status Usage = 1
number_of_status (ScriptFault line rule) = 2
number_of_status TooLong = 3
number_of_status ReadFault = 4
number_of_status WriteFault = 5
number_of_status NoMemory = 9
