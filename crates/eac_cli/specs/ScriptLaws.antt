-- What holds of scripts and their faults, whoever reads them.
use Rattle.std.specs.Prelude.{◌≡◌, ◌≤◌, ℕ, List, [], ◌++◌, length, None, Ok}
use Rattle.policy_limits.specs.Setup.{SetupValue}
use Rattle.policy_limits.specs.SetupText.{read_setup}
use Rattle.eac_cli.specs.Script.{Line, lines_read, setup_lines, named_of, IsScript, IsFault, InOrder, AllFit}
use Rattle.eac_cli.specs.declared.event.EventLine.{EventLine}

-- A script has no fault.
abbrev pub ScriptsAreFine : Type 0
ScriptsAreFine =
    (bytes : List ℕ) (chips : ℕ) (setup : SetupValue) (events : List EventLine) (line rule : ℕ)
    → IsScript bytes chips setup events → IsFault bytes chips line rule → ⊥

-- A fault is one.
abbrev pub FaultIsOne : Type 0
FaultIsOne =
    (bytes : List ℕ) (chips : ℕ) (line rule line' rule' : ℕ)
    → IsFault bytes chips line rule → IsFault bytes chips line' rule' → (line ≡ line') × (rule ≡ rule')

-- The events of a script are one list.
abbrev pub EventsAreOne : Type 0
EventsAreOne =
    (bytes : List ℕ) (chips : ℕ) (setup setup' : SetupValue) (events events' : List EventLine)
    → IsScript bytes chips setup events → IsScript bytes chips setup' events' → events ≡ events'

-- The setup of a script is one.
abbrev pub SetupIsOne : Type 0
SetupIsOne =
    (bytes : List ℕ) (chips : ℕ) (setup setup' : SetupValue) (events events' : List EventLine)
    → IsScript bytes chips setup events → IsScript bytes chips setup' events' → setup ≡ setup'

-- Lines of which no event comes, and then lines of which none is a setup line.
pub record IsInTwoParts (lines : List Line) : Type 0 where
  pub front : List Line
  pub back : List Line
  pub cut : lines ≡ front ++ back
  pub no_event : named_of front ≡ []
  pub no_setup : setup_lines back ≡ []

-- All setup lines of a script stand before its events.
abbrev pub SetupsComeFirst : Type 0
SetupsComeFirst =
    (bytes : List ℕ) (chips : ℕ) (setup : SetupValue) (events : List EventLine)
    → IsScript bytes chips setup events → IsInTwoParts (lines_read chips bytes)

-- A text is a setup exactly where it is a script without events, and then it is the script's.
abbrev pub SetupsAreScripts : Type 0
SetupsAreScripts =
    (text : List ℕ) (chips : ℕ) (setup : SetupValue)
    → (read_setup text ≡ Ok setup → IsScript text chips setup []) × (IsScript text chips setup [] → read_setup text ≡ Ok setup)

-- Each event of a script is in its place.
abbrev pub ScriptsAreInOrder : Type 0
ScriptsAreInOrder =
    (bytes : List ℕ) (chips : ℕ) (setup : SetupValue) (events : List EventLine) → IsScript bytes chips setup events → InOrder None events

-- Each event of a script is one between parties of its setup that have their parts, or of one of the chips.
abbrev pub ScriptsFit : Type 0
ScriptsFit =
    (bytes : List ℕ) (chips : ℕ) (setup : SetupValue) (events : List EventLine) → IsScript bytes chips setup events → AllFit chips setup events

-- A script has 20,000 events at most.
abbrev pub ScriptsAreShort : Type 0
ScriptsAreShort =
    (bytes : List ℕ) (chips : ℕ) (setup : SetupValue) (events : List EventLine)
    → IsScript bytes chips setup events → length events ≤ 20000
