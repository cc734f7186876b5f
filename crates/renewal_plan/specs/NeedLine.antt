-- Lines of a need: what the words of one say, wherever it stands, and their limits (this project's own).
use Rattle.std.specs.Prelude.{◌<◌, ◌≤◌, ℕ, ◌+◌, nat_lt, nat_le, List, [], ◌∷◌, length, Bool, ◌&&◌, Option, Some, None, if◌then◌else◌, codes, IsTrue}
use Rattle.std.specs.List.{list_all}
use Rattle.std.specs.Result.{result_ok}
use Rattle.std.specs.Str.{bytes_eq}
use Rattle.eac_base.specs.Answers.{◌gives◌}
use Rattle.eac_base.specs.Bytes.{is_within}
use Rattle.cv_dates.specs.Calendar.{day_from_text}
use Rattle.plain_text.specs.Lines.{one_word, two_words}
use Rattle.policy_limits.specs.SetupLine.{limited_word}
use Rattle.renewal_plan.specs.declared.need.Need.{Need}
use Rattle.renewal_plan.specs.declared.need_line.NeedLine.{NeedLine}
use Rattle.renewal_plan.specs.declared.need_line.NeedLine.TheVariants as said

-- ---- words

abbrev pub day_word : List ℕ → Option ℕ
day_word w = result_ok (day_from_text w)

-- Two days, where the second one doesn't come before the first.
abbrev pub ordered : ℕ → ℕ → Option (ℕ × ℕ)
ordered first last = if nat_le first last then Some (first, last) else None

abbrev pub span_of : List ℕ × List ℕ → Option (ℕ × ℕ)
span_of two = day_word two.0 gives λ first. day_word two.1 gives λ last. ordered first last

-- DATE DATE
abbrev pub span_words : List (List ℕ) → Option (ℕ × ℕ)
span_words rest = two_words rest gives span_of

-- ---- lines

-- `need DATE DATE`
abbrev pub need_said : List (List ℕ) → Option NeedLine
need_said rest = span_words rest gives λ span. Some (said.Need span)

abbrev pub term_of : List ℕ × List ℕ → Option NeedLine
term_of two = limited_word two.0 gives λ days. limited_word two.1 gives λ minimum. Some (said.Term days minimum)

-- `term DAYS MINIMUM`
abbrev pub term_said : List (List ℕ) → Option NeedLine
term_said rest = two_words rest gives term_of

-- `live N`
abbrev pub live_said : List (List ℕ) → Option NeedLine
live_said rest = one_word rest gives λ w. limited_word w gives λ live. Some (said.Live live)

-- `have DATE`
abbrev pub have_said : List (List ℕ) → Option NeedLine
have_said rest = one_word rest gives λ w. day_word w gives λ day. Some (said.Have day)

-- `authority DATE DATE`
abbrev pub authority_said : List (List ℕ) → Option NeedLine
authority_said rest = span_words rest gives λ span. Some (said.Authority span)

-- `closed DATE`
abbrev pub closed_said : List (List ℕ) → Option NeedLine
closed_said rest = one_word rest gives λ w. day_word w gives λ day. Some (said.Closed day)

-- The first word says the kind of the line.
abbrev pub line_said : List (List ℕ) → Option NeedLine
line_said [] = None
line_said (kind ∷ rest) =
    if bytes_eq kind (codes "need") then need_said rest else (if bytes_eq kind (codes "term") then term_said rest
    else (if bytes_eq kind (codes "live") then live_said rest else (if bytes_eq kind (codes "have") then have_said rest
    else (if bytes_eq kind (codes "authority") then authority_said rest
    else (if bytes_eq kind (codes "closed") then closed_said rest else None)))))

-- ---- limits

-- The most days from the first one that is to be covered to the last one, both counted.
abbrev pub most_days : ℕ
most_days = 3660

-- The most days that a certificate is valid after the day on which it is made.
abbrev pub most_term : ℕ
most_term = 92

abbrev pub most_live : ℕ
most_live = 100

abbrev pub most_authorities : ℕ
most_authorities = 100

abbrev pub most_closed : ℕ
most_closed = 3660

abbrev pub span_fits : ℕ × ℕ → Bool
span_fits span = nat_lt span.1 (span.0 + most_days)

abbrev pub term_fits : ℕ → ℕ → Bool
term_fits days minimum = is_within 1 most_term days && is_within 1 days minimum

abbrev pub live_fits : ℕ → Bool
live_fits live = is_within 1 most_live live

-- What each need that is read keeps.
pub record AreWithin (need : Need) : Type 0 where
  pub ordered : need.first ≤ need.last
  pub few_days : need.last < need.first + most_days
  pub some_minimum : 1 ≤ need.minimum
  pub minimum_fits : need.minimum ≤ need.days
  pub days_fit : need.days ≤ most_term
  pub some_live : 1 ≤ need.live
  pub few_live : need.live ≤ most_live
  pub spans : IsTrue (list_all (λ span. nat_le span.0 span.1) need.authorities)
  pub few_authorities : length need.authorities ≤ most_authorities
  pub few_closed : length need.closed ≤ most_closed
