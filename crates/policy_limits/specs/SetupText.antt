-- Setups as texts, and the first line that breaks a rule (this project's own).
use Rattle.std.specs.Prelude.{◌≡◌, ℕ, List, [], ◌∷◌, ◌++◌, IsTrue, is_some, Option, Some, None, Result, Ok, Err}
use Rattle.std.specs.List.{list_all, filter_map}
use Rattle.eac_base.specs.Answers.{◌>>=◌, ◌>>◌, unless, some_or, ◌gives◌}
use Rattle.eac_base.specs.Text.{words, numbered_lines}
use Rattle.policy_limits.specs.Setup.{SetupValue, setup_value}
use Rattle.policy_limits.specs.SetupLine.{line_said, fits, is_new, added}
use Rattle.policy_limits.specs.declared.party.Party.{Party}
use Rattle.policy_limits.specs.declared.registration.Registration.{Registration}
use Rattle.policy_limits.specs.declared.setup_line.SetupLine.{SetupLine}
use Rattle.policy_limits.specs.declared.setup_line.SetupLine.TheVariants as said
use Rattle.policy_limits.specs.declared.setup_refusal.SetupRefusal.{SetupRefusal}
use Rattle.policy_limits.specs.declared.setup_refusal.SetupRefusal.TheVariants.{Form, Limit, Twice, NoMemory}

-- The setup with what the line of this number says, or the least rule that the line breaks.
abbrev pub with_said : SetupValue → ℕ → SetupLine → Result SetupValue SetupRefusal
with_said r number line = unless (fits r line) (Limit number) >> unless (is_new r line) (Twice number) >> Ok (added r line)

abbrev pub with_line : SetupValue → ℕ × List ℕ → Result SetupValue SetupRefusal
with_line r line = some_or (words line.1 gives line_said r) (Form line.0) >>= with_said r line.0

-- Each line in turn, up to the first that breaks a rule.
abbrev pub with_lines : SetupValue → List (ℕ × List ℕ) → Result SetupValue SetupRefusal
with_lines r [] = Ok r
with_lines r (line ∷ more) = with_line r line >>= λ next. with_lines next more

abbrev pub read_setup : List ℕ → Result SetupValue SetupRefusal
read_setup text = with_lines (setup_value [] []) (numbered_lines text)

-- Want of memory is no rule.
abbrev pub rule_of : SetupRefusal → Option SetupRefusal
rule_of (Form line) = Some (Form line)
rule_of (Limit line) = Some (Limit line)
rule_of (Twice line) = Some (Twice line)
rule_of NoMemory = None

-- ---- the first line that breaks a rule

-- The line after the front breaks the rule, and the front's lines break none.
pub record IsFirstFault (start : SetupValue) (lines : List (ℕ × List ℕ)) (refusal : SetupRefusal) : Type 0 where
  pub front : List (ℕ × List ℕ)
  pub line : ℕ × List ℕ
  pub back : List (ℕ × List ℕ)
  pub before : SetupValue
  pub cut : lines ≡ front ++ line ∷ back
  pub fine : with_lines start front ≡ Ok before
  pub breaks : with_line before line ≡ Err refusal

-- A text that is refused is refused for that line.
abbrev pub FirstIsNamed : Type 0
FirstIsNamed = (text : List ℕ) (refusal : SetupRefusal) →
    read_setup text ≡ Err refusal → IsFirstFault (setup_value [] []) (numbered_lines text) refusal

-- ---- what the lines of a text that is read say

-- A line says the same in the setup that it is taken into and in the whole one: a party's number is its place, which no
-- later line changes.
abbrev pub said_in : SetupValue → ℕ × List ℕ → Option SetupLine
said_in s line = words line.1 gives line_said s

abbrev pub party_said : SetupLine → Option Party
party_said (said.Party p) = Some p
party_said (said.Registration g) = None

abbrev pub registration_said : SetupLine → Option Registration
registration_said (said.Party p) = None
registration_said (said.Registration g) = Some g

-- Each line says something. The parties are what the party lines say, and the registrations what the registration lines
-- say, in order.
pub record AreSaid (s : SetupValue) (lines : List (ℕ × List ℕ)) : Type 0 where
  pub all : IsTrue (list_all (λ line. is_some (said_in s line)) lines)
  pub parties : s.parties ≡ filter_map (λ line. said_in s line gives party_said) lines
  pub registrations : s.registrations ≡ filter_map (λ line. said_in s line gives registration_said) lines

abbrev pub LinesAreSaid : Type 0
LinesAreSaid = (text : List ℕ) (s : SetupValue) → read_setup text ≡ Ok s → AreSaid s (numbered_lines text)
