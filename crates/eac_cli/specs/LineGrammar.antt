-- The event that a line of a script names, or the rule that the line breaks by itself (this project's own). Setup lines
-- have their grammar where setups have, and each family of events has its own.
use Rattle.std.specs.Prelude.{ℕ, List, [], ◌∷◌, codes, Option, Some, None, Result, Err, if◌then◌else◌}
use Rattle.std.specs.Str.{bytes_eq}
use Rattle.eac_base.specs.Answers.{◌>>=◌, some_or}
use Rattle.eac_base.specs.Text.{words}
use Rattle.eac_cli.specs.ActLines.{found_said, link_said, trust_said, apply_said}
use Rattle.eac_cli.specs.AskLines.{ask_said}
use Rattle.eac_cli.specs.ChipLines.{make_said, present_said, import_said, look_said}
use Rattle.eac_cli.specs.DayLines.{day_said}
use Rattle.eac_cli.specs.PacketLines.{fetch_said, push_said, send_said, deliver_said}
use Rattle.eac_cli.specs.declared.event_kind.EventKind.{EventKind}
use Rattle.eac_cli.specs.declared.event_kind.EventKind.TheVariants.{Day, Ask, Found, Link, Trust, Apply}
use Rattle.eac_cli.specs.declared.event_kind.EventKind.TheVariants.{Fetch, Push, Send, Deliver}
use Rattle.eac_cli.specs.declared.event_kind.EventKind.TheVariants.{Make, Present, Import, Look}
use Rattle.eac_cli.specs.declared.line_rule.LineRule.{LineRule}
use Rattle.eac_cli.specs.declared.line_rule.LineRule.TheVariants.{Grammar}
use Rattle.eac_cli.specs.declared.named_event.NamedEvent.{NamedEvent}

-- The first word says the kind of the event.
abbrev pub kind_word : List ℕ → Option EventKind
kind_word w =
    if bytes_eq w (codes "day") then Some Day else (if bytes_eq w (codes "ask") then Some Ask
    else (if bytes_eq w (codes "found") then Some Found else (if bytes_eq w (codes "link") then Some Link
    else (if bytes_eq w (codes "trust") then Some Trust else (if bytes_eq w (codes "apply") then Some Apply
    else (if bytes_eq w (codes "fetch") then Some Fetch else (if bytes_eq w (codes "push") then Some Push
    else (if bytes_eq w (codes "send") then Some Send else (if bytes_eq w (codes "deliver") then Some Deliver
    else (if bytes_eq w (codes "make") then Some Make else (if bytes_eq w (codes "present") then Some Present
    else (if bytes_eq w (codes "import") then Some Import else (if bytes_eq w (codes "look") then Some Look
    else None)))))))))))))

-- What stands behind it, with so many chips.
abbrev pub said_as : (chips : ℕ) → EventKind → List (List ℕ) → Result NamedEvent LineRule
said_as chips Day rest = day_said rest
said_as chips Ask rest = ask_said rest
said_as chips Found rest = found_said rest
said_as chips Link rest = link_said rest
said_as chips Trust rest = trust_said rest
said_as chips Apply rest = apply_said rest
said_as chips Fetch rest = fetch_said rest
said_as chips Push rest = push_said rest
said_as chips Send rest = send_said rest
said_as chips Deliver rest = deliver_said rest
said_as chips Make rest = make_said chips rest
said_as chips Present rest = present_said chips rest
said_as chips Import rest = import_said chips rest
said_as chips Look rest = look_said chips rest

abbrev pub event_said : (chips : ℕ) → List (List ℕ) → Result NamedEvent LineRule
event_said chips [] = Err Grammar
event_said chips (w ∷ rest) = some_or (kind_word w) Grammar >>= λ kind. said_as chips kind rest

abbrev pub event_of : (chips : ℕ) → List ℕ → Result NamedEvent LineRule
event_of chips line = some_or (words line) Grammar >>= event_said chips
