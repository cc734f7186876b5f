-- Events of the calendar (this project's own): it is this day from now on.
use Rattle.std.specs.Prelude.{◌≡◌, ℕ, Option, Some}
use Rattle.eac_net.specs.State.{State, Standing}
use Rattle.eac_net.specs.declared.answer.Answer.{Answer}
use Rattle.eac_net.specs.declared.answer.Answer.TheVariants as answers

-- over rows
abbrev pub DayTurn : State → ℕ → Option Answer → State → Type 0
DayTurn s day answer s' = (answer ≡ Some answers.Silent) × (s' ≡ record s { day = Some day })

-- whatever is told
abbrev pub DayAnswers : Standing → ℕ → Option Answer → Standing → Type 0
DayAnswers s day answer s' = (answer ≡ Some answers.Silent) × (s' ≡ record s { day = Some day })
