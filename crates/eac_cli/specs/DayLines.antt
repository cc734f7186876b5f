-- Lines of the calendar (this project's own): `day DATE`.
use Rattle.std.specs.Prelude.{ℕ, List, Result}
use Rattle.std.specs.Result.{result_map_both}
use Rattle.eac_base.specs.Answers.{◌>>=◌, some_or}
use Rattle.cv_dates.specs.Calendar.{day_from_text}
use Rattle.plain_text.specs.Lines.{one_word}
use Rattle.eac_cli.specs.declared.line_rule.LineRule.{LineRule}
use Rattle.eac_cli.specs.declared.line_rule.LineRule.TheVariants.{Grammar}
use Rattle.eac_cli.specs.declared.named_event.NamedEvent.{NamedEvent}
use Rattle.eac_cli.specs.declared.named_event.NamedEvent.TheVariants as named

-- A date names a day of the calendar by its six digits.
abbrev pub day_of : List ℕ → Result NamedEvent LineRule
day_of date = result_map_both named.Day (λ why. Grammar) (day_from_text date)

abbrev pub day_said : List (List ℕ) → Result NamedEvent LineRule
day_said rest = some_or (one_word rest) Grammar >>= day_of
