-- What `plan` prints (this project's own).
use Rattle.std.specs.Prelude.{◌≡◌, ℕ, List, ◌++◌, length, flat_map, codes, Ok}
use Rattle.std.specs.Fmt.{decimal}
use Rattle.cv_dates.specs.Calendar.{day_text}
use Rattle.renewal_plan.specs.NeedText.{read_need}
use Rattle.renewal_plan.specs.Plans.{IsAnswer}
use Rattle.renewal_plan.specs.Renewals.{Renewal}
use Rattle.renewal_plan.specs.declared.need.Need.{Need}
use Rattle.renewal_plan.specs.declared.planning.Planned.{Planned}
use Rattle.renewal_plan.specs.declared.planning.Planned.TheVariants.{Plan, Uncovered}

-- the day of a renewal and its last day
abbrev pub renewal_line : Renewal → List ℕ
renewal_line r = day_text r.0 ++ codes " " ++ day_text r.1 ++ codes "\n"

abbrev pub planned_text : Planned → List ℕ
planned_text (Plan renewals) = codes "renewals " ++ decimal (length renewals) ++ codes "\n" ++ flat_map renewal_line renewals
planned_text (Uncovered day) = codes "uncovered " ++ day_text day ++ codes "\n"

-- The bytes are a need, and the text says its plan, or the first day that no plan covers.
pub record IsPlanOf (bytes text : List ℕ) : Type 0 where
  pub need : Need
  pub planned : Planned
  pub reads : read_need bytes ≡ Ok need
  pub answer : IsAnswer need planned
  pub says : text ≡ planned_text planned
