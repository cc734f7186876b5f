-- Needs as texts, and the first line that breaks a rule (this project's own).
use Rattle.std.specs.Prelude.{ℕ, ◌+◌, nat_lt, List, [], ◌∷◌, ◌++◌, length, Option, Some, None, Result, Ok, Err}
use Rattle.std.specs.Str.Lines.{lines}
use Rattle.eac_base.specs.Answers.{◌>>=◌, ◌>>◌, unless, some_or, ◌gives◌}
use Rattle.eac_base.specs.Text.{words, numbered_lines}
use Rattle.renewal_plan.specs.NeedLine.{line_said, span_fits, term_fits, live_fits, most_authorities, most_closed}
use Rattle.renewal_plan.specs.declared.need.Need.{Need}
use Rattle.renewal_plan.specs.declared.need_line.NeedLine.{NeedLine}
use Rattle.renewal_plan.specs.declared.need_line.NeedLine.TheVariants as said
use Rattle.renewal_plan.specs.declared.need_refusal.NeedRefusal.{NeedRefusal}
use Rattle.renewal_plan.specs.declared.need_refusal.NeedRefusal.TheVariants.{Fault, NoMemory}
use Rattle.renewal_plan.specs.declared.need_text.Reading.{Reading}
use Rattle.renewal_plan.specs.declared.need_text.Reading.TheVariants as next

-- ---- the rules

-- Rule 1 is the grammar.
abbrev pub form : ℕ → NeedRefusal
form line = Fault line 1

-- Rule 2 is a limit.
abbrev pub limit : ℕ → NeedRefusal
limit line = Fault line 2

-- Want of memory is no rule.
abbrev pub rule_of : NeedRefusal → Option NeedRefusal
rule_of (Fault line rule) = Some (Fault line rule)
rule_of NoMemory = None

-- ---- what a line adds where it may stand, by what may come next

abbrev pub with_need : ℕ → NeedLine → Result Reading NeedRefusal
with_need number (said.Need span) = unless (span_fits span) (limit number) >> Ok (next.Term span)
with_need number other = Err (form number)

abbrev pub with_term : ℕ × ℕ → ℕ → NeedLine → Result Reading NeedRefusal
with_term span number (said.Term days minimum) = unless (term_fits days minimum) (limit number) >> Ok (next.Live span days minimum)
with_term span number other = Err (form number)

abbrev pub new_need : (span : ℕ × ℕ) (days minimum live : ℕ) → Need
new_need span days minimum live = record {
  first = span.0;
  last = span.1;
  days = days;
  minimum = minimum;
  live = live;
  have = None;
  authorities = [];
  closed = [];
}

abbrev pub with_live : ℕ × ℕ → (days minimum number : ℕ) → NeedLine → Result Reading NeedRefusal
with_live span days minimum number (said.Live live) =
    unless (live_fits live) (limit number) >> Ok (next.Have (new_need span days minimum live))
with_live span days minimum number other = Err (form number)

abbrev pub with_closed : Need → ℕ → NeedLine → Result Reading NeedRefusal
with_closed need number (said.Closed day) =
    unless (nat_lt (length need.closed) most_closed) (limit number) >> Ok (next.Closed (record need { closed = need.closed ++ day ∷ [] }))
with_closed need number other = Err (form number)

abbrev pub with_authority : Need → ℕ → NeedLine → Result Reading NeedRefusal
with_authority need number (said.Authority span) =
    unless (nat_lt (length need.authorities) most_authorities) (limit number)
    >> Ok (next.Authority (record need { authorities = need.authorities ++ span ∷ [] }))
with_authority need number other = with_closed need number other

abbrev pub with_have : Need → ℕ → NeedLine → Result Reading NeedRefusal
with_have need number (said.Have day) = Ok (next.Authority (record need { have = Some day }))
with_have need number other = with_authority need number other

-- ---- texts

abbrev pub with_said : Reading → ℕ → NeedLine → Result Reading NeedRefusal
with_said next.Need number line = with_need number line
with_said (next.Term span) number line = with_term span number line
with_said (next.Live span days minimum) number line = with_live span days minimum number line
with_said (next.Have need) number line = with_have need number line
with_said (next.Authority need) number line = with_authority need number line
with_said (next.Closed need) number line = with_closed need number line

abbrev pub line_of : ℕ × List ℕ → Option NeedLine
line_of line = words line.1 gives line_said

-- What was read with the line, or the least rule that the line breaks there.
abbrev pub with_line : Reading → ℕ × List ℕ → Result Reading NeedRefusal
with_line r line = some_or (line_of line) (form line.0) >>= with_said r line.0

-- Each line in turn, up to the first that breaks a rule.
abbrev pub with_lines : Reading → List (ℕ × List ℕ) → Result Reading NeedRefusal
with_lines r [] = Ok r
with_lines r (line ∷ more) = with_line r line >>= λ after. with_lines after more

-- The need that was read, where the text may end.
abbrev pub need_of : Reading → Option Need
need_of next.Need = None
need_of (next.Term span) = None
need_of (next.Live span days minimum) = None
need_of (next.Have need) = Some need
need_of (next.Authority need) = Some need
need_of (next.Closed need) = Some need

-- The line behind the last one.
abbrev pub end_line : List ℕ → ℕ
end_line text = length (lines text) + 1

abbrev pub read_need : List ℕ → Result Need NeedRefusal
read_need text = with_lines next.Need (numbered_lines text) >>= λ r. some_or (need_of r) (form (end_line text))
