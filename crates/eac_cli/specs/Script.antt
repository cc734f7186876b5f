-- Scripts, and the first fault of what is none (this project's own).
use Rattle.std.specs.Prelude.{◌≡◌, ◌≤◌, ◌+◌, ℕ, List, [], ◌∷◌, ◌++◌, map, length, nat_lt, Option, Some, None}
use Rattle.std.specs.Prelude.{Result, Ok, Err, if◌then◌else◌, is_some}
use Rattle.std.specs.List.{All, filter_map}
use Rattle.std.specs.Option.{option_map, option_or}
use Rattle.eac_base.specs.Answers.{◌>>=◌}
use Rattle.eac_base.specs.Text.{numbered_lines}
use Rattle.policy_limits.specs.Setup.{SetupValue, setup_value}
use Rattle.policy_limits.specs.SetupLine.{is_setup_line}
use Rattle.policy_limits.specs.SetupText.{with_line, with_lines}
use Rattle.policy_limits.specs.declared.setup_refusal.SetupRefusal.{SetupRefusal}
use Rattle.policy_limits.specs.declared.setup_refusal.SetupRefusal.TheVariants.{Form, Limit as SetupLimit}
use Rattle.policy_limits.specs.declared.setup_refusal.SetupRefusal.TheVariants.{Twice as SetupTwice}
use Rattle.policy_limits.specs.declared.setup_refusal.SetupRefusal.TheVariants.{NoMemory as SetupNoMemory}
use Rattle.eac_net.specs.Chips.{HasChip}
use Rattle.eac_net.specs.Steps.{FitsLine, HasDay, later_day}
use Rattle.eac_net.specs.declared.event.Event.{Event}
use Rattle.eac_cli.specs.LineGrammar.{event_of}
use Rattle.eac_cli.specs.LineRules.{rule_number}
use Rattle.eac_cli.specs.Naming.{event_in}
use Rattle.eac_cli.specs.declared.event.EventLine.{EventLine}
use Rattle.eac_cli.specs.declared.line_rule.LineRule.{LineRule}
use Rattle.eac_cli.specs.declared.line_rule.LineRule.TheVariants.{Grammar, Limit, Twice, TooLate, TooEarly}
use Rattle.eac_cli.specs.declared.line_rule.LineRule.TheVariants.{DayFalls, Party, TooMany}
use Rattle.eac_cli.specs.declared.line_rule.LineRefusal.{LineRefusal}
use Rattle.eac_cli.specs.declared.line_rule.LineRefusal.TheVariants.{Rule, NoMemory}
use Rattle.eac_cli.specs.declared.named_event.NamedEvent.{NamedEvent}
use Rattle.eac_cli.specs.declared.named_event.NamedEvent.TheVariants as named
use Rattle.eac_cli.specs.declared.script.ScriptRefusal.{ScriptRefusal}
use Rattle.eac_cli.specs.declared.script.ScriptRefusal.TheVariants.{Fault, NoMemory as ScriptNoMemory}

-- ---- lines

-- What a line says that isn't passed over. A setup line names parties of the lines before it, so its text stays. Any
-- other line is read by itself: to the event that it names, or to the rule that it breaks.
pub data Said : Type 0 where
  InSetup : (text : List ℕ) → Said
  Alone : (read : Result NamedEvent LineRule) → Said

-- A line with its number.
abbrev pub Line : Type 0
Line = ℕ × Said

module _ (chips : ℕ) where
  abbrev pub said_by : List ℕ → Said
  said_by text = if is_setup_line text then InSetup text else Alone (event_of chips text)

  abbrev pub line_of : ℕ × List ℕ → Line
  line_of line = (line.0, said_by line.1)

  abbrev pub lines_read : List ℕ → List Line
  lines_read bytes = map line_of (numbered_lines bytes)

-- ---- what lines say together

-- The setup lines.
abbrev pub setup_lines : List Line → List (ℕ × List ℕ)
setup_lines [] = []
setup_lines ((n, InSetup text) ∷ lines) = (n, text) ∷ setup_lines lines
setup_lines ((n, Alone read) ∷ lines) = setup_lines lines

-- The setup that the setup lines are as a text of their own, or the first rule that one of them breaks there.
abbrev pub setup_of : List Line → Result SetupValue SetupRefusal
setup_of lines = with_lines (setup_value [] []) (setup_lines lines)

-- The event lines, as they name their parties.
abbrev pub named_of : List Line → List (ℕ × NamedEvent)
named_of [] = []
named_of ((n, InSetup text) ∷ lines) = named_of lines
named_of ((n, Alone (Ok event)) ∷ lines) = (n, event) ∷ named_of lines
named_of ((n, Alone (Err rule)) ∷ lines) = named_of lines

-- An event line in a setup.
abbrev pub event_line : SetupValue → ℕ × NamedEvent → Option EventLine
event_line setup line = option_map (λ event. record { line = line.0; event = event }) (event_in setup line.1)

-- The events that they are in a setup.
abbrev pub events_of : SetupValue → List Line → List EventLine
events_of setup lines = filter_map (event_line setup) (named_of lines)

-- The day that an event begins.
abbrev pub day_begun : NamedEvent → Option ℕ
day_begun (named.Day day) = Some day
day_begun (named.Ask reference bytes) = None
day_begun (named.Found authority) = None
day_begun (named.Link authority) = None
day_begun (named.Trust party authority) = None
day_begun (named.Apply holder authority root) = None
day_begun (named.Fetch party desk) = None
day_begun (named.Push desk party) = None
day_begun (named.Send from to bytes) = None
day_begun (named.Deliver packet) = None
day_begun (named.Make chip authority) = None
day_begun (named.Present chip terminal) = None
day_begun (named.Import chip bytes) = None
day_begun (named.Look chip) = None

-- The day in force after all of these event lines.
abbrev pub last_day : Option ℕ → List (ℕ × NamedEvent) → Option ℕ
last_day today [] = today
last_day today (line ∷ lines) = last_day (option_or (day_begun line.1) today) lines

abbrev pub day_after : List Line → Option ℕ
day_after lines = last_day None (named_of lines)

-- ---- rules of setup lines

-- A rule of setups, seen as a rule of scripts. Want of memory is none.
abbrev pub setup_rule : SetupRefusal → Option LineRule
setup_rule (Form line) = Some Grammar
setup_rule (SetupLimit line) = Some Limit
setup_rule (SetupTwice line) = Some Twice
setup_rule SetupNoMemory = None

abbrev pub rule_in_setup : Result SetupValue SetupRefusal → Option LineRule
rule_in_setup (Ok setup) = None
rule_in_setup (Err refusal) = setup_rule refusal

-- A setup line stands before all events.
abbrev pub late_rule : ℕ → Option LineRule
late_rule events = if nat_lt 0 events then Some TooLate else None

-- The least rule that a setup line breaks behind this setup and so many events.
abbrev pub setup_rule_behind : Result SetupValue SetupRefusal → ℕ → ℕ × List ℕ → Option LineRule
setup_rule_behind setup events line = option_or (rule_in_setup (setup >>= λ r. with_line r line)) (late_rule events)

-- ---- rules of events

-- The rule of order that an event breaks on this day, where it begins that one: a day is there before any other event,
-- and no day falls.
abbrev pub order_rule : (today begun : Option ℕ) → Option LineRule
order_rule None None = Some TooEarly
order_rule None (Some day) = None
order_rule (Some today) None = None
order_rule (Some today) (Some day) = if nat_lt day today then Some DayFalls else None

-- The parties of an event are those that it wants, and its chip is there.
abbrev pub party_rule : Result SetupValue SetupRefusal → NamedEvent → Option LineRule
party_rule (Ok setup) event = if is_some (event_in setup event) then None else Some Party
party_rule (Err refusal) event = None

-- A script has 20,000 events at most.
abbrev pub count_rule : ℕ → Option LineRule
count_rule events = if nat_lt events 20000 then None else Some TooMany

-- The least rule that an event breaks in this setup, on this day and behind so many events.
abbrev pub rule_behind : Result SetupValue SetupRefusal → Option ℕ → ℕ → NamedEvent → Option LineRule
rule_behind setup today events event =
    option_or (order_rule today (day_begun event)) (option_or (party_rule setup event) (count_rule events))

-- The least rule that a line breaks that is no setup line.
abbrev pub event_rule_behind : Result SetupValue SetupRefusal → Option ℕ → ℕ → Result NamedEvent LineRule
    → Option LineRule
event_rule_behind setup today events (Ok event) = rule_behind setup today events event
event_rule_behind setup today events (Err rule) = Some rule

-- ---- rules of lines

-- The least rule that a line breaks behind this setup, on this day and behind so many events.
abbrev pub broken_behind : Result SetupValue SetupRefusal → Option ℕ → ℕ → Line → Option LineRule
broken_behind setup today events (n, InSetup text) = setup_rule_behind setup events (n, text)
broken_behind setup today events (n, Alone read) = event_rule_behind setup today events read

-- The least rule that a line breaks after the earlier lines.
abbrev pub broken : List Line → Line → Option LineRule
broken earlier line = broken_behind (setup_of earlier) (day_after earlier) (length (named_of earlier)) line

-- No line breaks a rule, each after the earlier lines and the lines before it.
abbrev pub Unbroken : List Line → List Line → Type 0
Unbroken earlier [] = Unit {0}
Unbroken earlier (line ∷ lines) = (broken earlier line ≡ None) × Unbroken (earlier ++ line ∷ []) lines

-- ---- scripts and faults

-- The bytes are a script over so many chips, with this setup and these events.
pub record IsScript (bytes : List ℕ) (chips : ℕ) (setup : SetupValue) (events : List EventLine) : Type 0 where
  pub fine : Unbroken [] (lines_read chips bytes)
  pub setup_is : setup_of (lines_read chips bytes) ≡ Ok setup
  pub events_are : events ≡ events_of setup (lines_read chips bytes)

-- The first line that breaks a rule is the one of this number, and this is the number of the least rule that it breaks.
pub record IsFault (bytes : List ℕ) (chips line rule : ℕ) : Type 0 where
  pub front : List Line
  pub said : Said
  pub back : List Line
  pub cut : lines_read chips bytes ≡ front ++ (line, said) ∷ back
  pub fine : Unbroken [] front
  pub breaks : option_map rule_number (broken front (line, said)) ≡ Some rule

-- A refusal is true: want of memory says nothing of the bytes.
abbrev pub FaultOf : List ℕ → (chips : ℕ) → ScriptRefusal → Type 0
FaultOf bytes chips (Fault line rule) = IsFault bytes chips line rule
FaultOf bytes chips ScriptNoMemory = Unit {0}

abbrev pub refused_at : ℕ → LineRefusal → ScriptRefusal
refused_at line (Rule rule) = Fault line (rule_number rule)
refused_at line NoMemory = ScriptNoMemory

-- ---- one line as the program takes it

-- The line breaks no rule, and this is the setup, the day and the events behind it.
pub record Takes (line : Line) (setup setup' : SetupValue) (today today' : Option ℕ) (events events' : List EventLine)
    : Type 0 where
  pub fine : broken_behind (Ok setup) today (length events) line ≡ None
  pub setup_is : with_lines setup (setup_lines (line ∷ [])) ≡ Ok setup'
  pub day_is : today' ≡ last_day today (named_of (line ∷ []))
  pub events_are : events' ≡ events ++ events_of setup (line ∷ [])
  pub count_is : length events' ≡ length events + length (named_of (line ∷ []))

-- A line that is refused breaks the rule. Want of memory says nothing of it.
abbrev pub Breaks : LineRefusal → Option LineRule → Type 0
Breaks (Rule rule) broken = broken ≡ Some rule
Breaks NoMemory broken = Unit {0}

-- ---- what every script keeps

-- the second day isn't before the first
abbrev pub IsNotBefore : Option ℕ → Option ℕ → Type 0
IsNotBefore None day' = Unit {0}
IsNotBefore (Some day) None = ⊥
IsNotBefore (Some day) (Some day') = day ≤ day'

-- An event that wants a day has one before it, and the day in force never falls.
pub record IsInPlace (today : Option ℕ) (event : Event) : Type 0 where
  pub day : HasDay today event
  pub later : IsNotBefore today (later_day today event)

-- Each event is in its place after those before it.
abbrev pub InOrder : Option ℕ → List EventLine → Type 0
InOrder today [] = Unit {0}
InOrder today (line ∷ lines) = IsInPlace today line.event × InOrder (later_day today line.event) lines

-- Each event is one between parties of the setup that have their parts, its chip is one of so many, and its bytes are within
-- the limits.
abbrev pub AllFit : (chips : ℕ) → SetupValue → List EventLine → Type 0
AllFit chips setup lines = All (λ line. HasChip chips line.event × FitsLine setup line.event) lines
