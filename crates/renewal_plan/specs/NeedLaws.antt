-- What a text and its need have to do with each other (this project's own).
use Rattle.std.specs.Prelude.{◌≡◌, ◌↔◌, ◌⊎◌, ℕ, List, [], ◌∷◌, ◌++◌, map, Option, Some, None, Ok, Err}
use Rattle.eac_base.specs.Text.{numbered_lines}
use Rattle.renewal_plan.specs.NeedLine.{AreWithin}
use Rattle.renewal_plan.specs.NeedText.{form, end_line, line_of, with_line, with_lines, need_of, read_need}
use Rattle.renewal_plan.specs.declared.need.Need.{Need}
use Rattle.renewal_plan.specs.declared.need_line.NeedLine.{NeedLine}
use Rattle.renewal_plan.specs.declared.need_line.NeedLine.TheVariants as said
use Rattle.renewal_plan.specs.declared.need_refusal.NeedRefusal.{NeedRefusal}
use Rattle.renewal_plan.specs.declared.need_text.Reading.{Reading}
use Rattle.renewal_plan.specs.declared.need_text.Reading.TheVariants as next

-- ---- what is read

abbrev pub have_lines : Option ℕ → List NeedLine
have_lines None = []
have_lines (Some day) = said.Have day ∷ []

-- What the lines of a need say, in order.
abbrev pub lines_of : Need → List NeedLine
lines_of need =
    said.Need (need.first, need.last) ∷ said.Term need.days need.minimum ∷ said.Live need.live ∷ []
    ++ have_lines need.have
    ++ map (λ span. said.Authority span) need.authorities
    ++ map (λ day. said.Closed day) need.closed

-- The need is within the limits, and the text's lines say it.
pub record IsTextOf (need : Need) (text : List ℕ) : Type 0 where
  pub within : AreWithin need
  pub lines : map line_of (numbered_lines text) ≡ map (λ line. Some line) (lines_of need)

-- A text is read as a need exactly where it is a text of it.
abbrev pub TextsAreRead : Type 0
TextsAreRead = (text : List ℕ) (need : Need) → (read_need text ≡ Ok need) ↔ IsTextOf need text

-- ---- what is refused

-- The line after the front breaks the rule, and the front's lines break none.
pub record IsFirstFault (lines : List (ℕ × List ℕ)) (refusal : NeedRefusal) : Type 0 where
  pub front : List (ℕ × List ℕ)
  pub line : ℕ × List ℕ
  pub back : List (ℕ × List ℕ)
  pub before : Reading
  pub cut : lines ≡ front ++ line ∷ back
  pub fine : with_lines next.Need front ≡ Ok before
  pub breaks : with_line before line ≡ Err refusal

-- No line breaks a rule, and the line behind the last one is refused, since something is wanting.
pub record EndsEarly (text : List ℕ) (refusal : NeedRefusal) : Type 0 where
  pub before : Reading
  pub fine : with_lines next.Need (numbered_lines text) ≡ Ok before
  pub wanting : need_of before ≡ None
  pub behind : refusal ≡ form (end_line text)

-- A text that is refused is refused for the first line that breaks a rule, or for its end.
abbrev pub FirstIsNamed : Type 0
FirstIsNamed = (text : List ℕ) (refusal : NeedRefusal) → read_need text ≡ Err refusal
    → IsFirstFault (numbered_lines text) refusal ⊎ EndsEarly text refusal
