-- Events of the plain register (this project's own): it is asked on the day in force.
use Rattle.std.specs.Prelude.{◌≡◌, ◌⊎◌, ℕ, ◌≤◌, List, [], ◌∷◌, ◌++◌, length, Option, Some}
use Rattle.cv_dates.specs.Calendar.{day_text}
use Rattle.eac_base.specs.Causes.{Rose}
use Rattle.issue_core.specs.declared.rule.Rule.{Rule}
use Rattle.issue_core.specs.declared.rule.Rule.TheVariants.{Full}
use Rattle.issue_core.specs.declared.registering.serving.RegisterAnswer.TheVariants as registered
use Rattle.issue_core.specs.Registering.Desk.{Asked, RegisterFault, register, unsigned, delivery_of, entries_of, rows_left, IsAgain}
use Rattle.ledger.specs.Ledger.{Outcome, Issued, Kept, Refused, Faulted, NoMemory}
use Rattle.ledger.specs.Story.{Decides}
use Rattle.eac_net.specs.Answers.{outcome_answer}
use Rattle.eac_net.specs.State.{State, Standing}
use Rattle.eac_net.specs.declared.answer.Answer.{Answer}

-- its bytes are within the limit of its line
abbrev pub AskFits : List ℕ → Type 0
AskFits bytes = length bytes ≤ 4096

-- what the register is asked on this day
abbrev pub asked_on : ℕ → List ℕ → List ℕ → Asked
asked_on day reference bytes = record { reference = reference; bytes = bytes; day = day_text day }

-- ---- over rows

-- One delivery, with the rows as the ledger before it. The row that it left was added.
pub record AskTurn (s : State) (reference bytes : List ℕ) (answer : Option Answer) (s' : State) : Type 0 where
  pub day : ℕ
  pub outcome : Outcome (List ℕ) Rule RegisterFault
  pub left : Option (List ℕ)
  pub faults : ℕ
  pub today : s.day ≡ Some day
  pub later : s.keeper ≤ faults
  pub decides : Decides register unsigned (entries_of s.rows)
      (delivery_of (asked_on day reference bytes) (s.keeper, faults) outcome left)
  pub told : answer ≡ outcome_answer reference outcome
  pub next : s' ≡ record s {
    rows = s.rows ++ rows_left (asked_on day reference bytes) left;
    keeper = faults;
    register = s.register ++ delivery_of (asked_on day reference bytes) (s.keeper, faults) outcome left ∷ [];
  }

-- ---- whatever is told

-- How the keeper's count goes with an outcome: up where a fault of the keeper is told, and else not at all. Where
-- memory was wanting it may have gone up before.
abbrev pub Counts : (before now : ℕ) → Outcome (List ℕ) Rule RegisterFault → Type 0
Counts before now (Issued given) = now ≡ before
Counts before now (Kept given) = now ≡ before
Counts before now (Refused rule) = now ≡ before
Counts before now (Faulted fault) = Rose before now
Counts before now NoMemory = before ≤ now

-- The outcome may come: a day that is given is the one in force; what is kept or used is what some row of that
-- reference says, as a keeper may have it, and which row this keeper gave isn't said; and a full table is the keeper's
-- word.
abbrev pub MayCome : (today : Option ℕ) → (reference bytes : List ℕ) → Outcome (List ℕ) Rule RegisterFault → Type 0
MayCome today reference bytes (Issued given) = (day : ℕ) × (today ≡ Some day) × (given ≡ day_text day)
MayCome today reference bytes (Kept given) = IsAgain reference bytes (registered.Kept given)
MayCome today reference bytes (Refused rule) = IsAgain reference bytes (registered.Refused rule) ⊎ (rule ≡ Full)
MayCome today reference bytes (Faulted fault) = Unit {0}
MayCome today reference bytes NoMemory = Unit {0}

pub record AskAnswers (s : Standing) (reference bytes : List ℕ) (answer : Option Answer) (s' : Standing) : Type 0 where
  pub outcome : Outcome (List ℕ) Rule RegisterFault
  pub told : answer ≡ outcome_answer reference outcome
  pub later : s.keeper ≤ s'.keeper
  pub counts : Counts s.keeper s'.keeper outcome
  pub comes : MayCome s.day reference bytes outcome
  pub next : s' ≡ record s { keeper = s'.keeper }
