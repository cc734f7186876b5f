-- Plans of renewals, and which one is given (this project's own).
use Rattle.std.specs.Prelude.{◌≡◌, ◌⊎◌, ◌<◌, ◌≤◌, ℕ, List, [], ◌∷◌, length, reverse, Option, Some, None}
use Rattle.renewal_plan.specs.Renewals.{Renewal, IsRenewal}
use Rattle.renewal_plan.specs.declared.need.Need.{Need}
use Rattle.renewal_plan.specs.declared.planning.Planned.{Planned}
use Rattle.renewal_plan.specs.declared.planning.Planned.TheVariants.{Plan, Uncovered}

-- A plan is a list of renewals, here the newest first.
abbrev pub IsPlan : Need → List Renewal → Type 0
IsPlan need [] = Unit {0}
IsPlan need (r ∷ earlier) = IsRenewal need earlier r × IsPlan need earlier

-- ---- covered days

abbrev pub HasUntil : Option ℕ → ℕ → Type 0
HasUntil None day = ⊥
HasUntil (Some have) day = day ≤ have

-- The day lies from a renewal's day to its last day.
abbrev pub IsRenewed : List Renewal → ℕ → Type 0
IsRenewed [] day = ⊥
IsRenewed (r ∷ earlier) day = ((r.0 ≤ day) × (day ≤ r.1)) ⊎ IsRenewed earlier day

-- The holder has a certificate until that day or later, or it lies within a renewal.
abbrev pub IsCovered : Need → List Renewal → ℕ → Type 0
IsCovered need plan day = HasUntil need.have day ⊎ IsRenewed plan day

-- Each day before this one is covered, from the first that is needed on.
abbrev pub CoversBefore : Need → List Renewal → ℕ → Type 0
CoversBefore need plan day = (d : ℕ) → need.first ≤ d → d < day → IsCovered need plan d

-- Each day up to this one is covered, from the first that is needed on.
abbrev pub Covers : Need → List Renewal → ℕ → Type 0
Covers need plan day = (d : ℕ) → need.first ≤ d → d ≤ day → IsCovered need plan d

-- ---- which plan

-- The second of two renewals ends later, or as late and on no earlier day.
abbrev pub IsNoLater : Renewal → Renewal → Type 0
IsNoLater a b = (a.1 < b.1) ⊎ ((a.1 ≡ b.1) × (a.0 ≤ b.0))

-- Of the renewals that may follow these with no uncovered day between, it has the latest last day, and of those that have it the
-- latest day.
pub record IsLatest (need : Need) (earlier : List Renewal) (r : Renewal) : Type 0 where
  pub joined : CoversBefore need earlier r.0
  pub latest : (other : Renewal) → IsRenewal need earlier other → CoversBefore need earlier other.0 → IsNoLater other r

abbrev pub AreLatest : Need → List Renewal → Type 0
AreLatest need [] = Unit {0}
AreLatest need (r ∷ earlier) = IsLatest need earlier r × AreLatest need earlier

-- It covers the last day that is needed, no plan that does so has fewer renewals, and each renewal is the latest.
pub record IsBest (need : Need) (plan : List Renewal) : Type 0 where
  pub is_plan : IsPlan need plan
  pub covers : Covers need plan need.last
  pub fewest : (other : List Renewal) → IsPlan need other → Covers need other need.last → length plan ≤ length other
  pub latest : AreLatest need plan

-- No plan covers the day, and each day before it is covered by one.
pub record IsUncovered (need : Need) (day : ℕ) : Type 0 where
  pub since : need.first ≤ day
  pub until : day ≤ need.last
  pub never : (plan : List Renewal) → IsPlan need plan → Covers need plan day → ⊥
  pub before : (d : ℕ) → d < day → (plan : List Renewal) × IsPlan need plan × Covers need plan d

-- ---- the answer

abbrev pub IsAnswer : Need → Planned → Type 0
IsAnswer need (Plan renewals) = IsBest need (reverse renewals)
IsAnswer need (Uncovered day) = IsUncovered need day

-- ---- laws

-- There is one best plan.
abbrev pub OnePlan : Type 0
OnePlan = (need : Need) (a b : List Renewal) → IsBest need a → IsBest need b → a ≡ b

-- Where a day is uncovered no plan covers the last day, and where there is a best plan no day is uncovered.
abbrev pub OneAnswer : Type 0
OneAnswer = (need : Need) (day : ℕ) (plan : List Renewal) → IsUncovered need day → IsPlan need plan → Covers need plan need.last → ⊥
