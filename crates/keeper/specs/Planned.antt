-- A keeper in memory, whose calls fail by a plan of call numbers, counted from 1 (this project's own).
use Rattle.std.specs.Prelude.{◌≡◌, ◌≢◌, ◌⊎◌, ℕ, ◌+◌, ◌-◌, ◌^◌, List, [], ◌∷◌, ◌++◌, Ok, Err, Some, None, option_map, nat_eq, nat_lt, if◌then◌else◌}
use Rattle.std.specs.List.{find}
use Rattle.std.specs.declared.option.Option.{Option}
use Rattle.std.specs.declared.result.Result.{Result}
use Rattle.eac_base.specs.Planned.{next_count}
use Rattle.keeper.specs.declared.rows.Row.{Row}
use Rattle.keeper.specs.declared.rows.Settled.{Settled}
use Rattle.keeper.specs.declared.plan.Moment.{Moment}
use Rattle.keeper.specs.declared.plan.Moment.TheVariants.{Before, After}
use Rattle.keeper.specs.declared.keeping.KeepRefusal.{KeepRefusal}
use Rattle.keeper.specs.declared.keeping.KeepRefusal.TheVariants.{Failed, Full, Twice, Absent, NoMemory}
use Rattle.keeper.specs.Rows.{settled_rows, UniqueKeys}
use Rattle.keeper.specs.Keeping.{MayAdd, MaySettle}

-- A keeper in memory: its rows, its plan, and its numbers of calls and of faults.
pub record KeeperValue : Type 0 where
  pub rows : List Row
  pub plan : List (ℕ × Moment)
  pub calls : ℕ
  pub faults : ℕ
  pub unique : UniqueKeys rows

-- ---- when a call fails

-- when the call of this number fails: as the first pair with that number says
abbrev pub moment_at : List (ℕ × Moment) → ℕ → Option Moment
moment_at plan call = option_map (λ (pair : ℕ × Moment). pair.1) (find (λ (pair : ℕ × Moment). nat_eq pair.0 call) plan)

-- when the call after so many calls fails; a call that isn't counted any more doesn't
abbrev pub next_moment : List (ℕ × Moment) → ℕ → Option Moment
next_moment plan calls = if nat_lt calls (2 ^ 64 - 1) then moment_at plan (calls + 1) else None

-- the count of faults after a call with this answer
abbrev pub faults_after : {T : Type 0} → Result T KeepRefusal → ℕ → ℕ
faults_after (Ok answer) faults = faults
faults_after (Err Failed) faults = next_count faults
faults_after (Err Full) faults = faults
faults_after (Err (Twice kept)) faults = faults
faults_after (Err Absent) faults = faults
faults_after (Err NoMemory) faults = faults

-- the call was counted, and a fault exactly where it answered `Failed`; the plan stays
pub record IsCounted {T : Type 0} (old new : KeeperValue) (result : Result T KeepRefusal) : Type 0 where
  pub plan : new.plan ≡ old.plan
  pub calls : new.calls ≡ next_count old.calls
  pub faults : new.faults ≡ faults_after result old.faults

-- ---- what a failing call does

-- the rows are as the call leaves them where it may change them, and else nothing has changed
abbrev pub Changed : Type 0 → List Row → List Row → List Row → Type 0
Changed may changed old new = (may × (new ≡ changed)) ⊎ ((may → ⊥) × (new ≡ old))

-- a change that fails at this moment, or doesn't fail. One that fails after its change may want memory for it.
abbrev pub ChangesAt : {U : Type 0} → Option Moment → Type 0 → List Row → List Row → List Row → Result U KeepRefusal → Type 0
ChangesAt None may changed old new result = result ≢ Err Failed
ChangesAt (Some Before) may changed old new result = (result ≡ Err Failed) × (new ≡ old)
ChangesAt (Some After) may changed old new result = ((result ≡ Err Failed) × Changed may changed old new) ⊎ ((result ≡ Err NoMemory) × (new ≡ old))

abbrev pub AddsAt : {U : Type 0} → Option Moment → List Row → List Row → Row → Result U KeepRefusal → Type 0
AddsAt moment old new row result = ChangesAt moment (MayAdd old row) (old ++ row ∷ []) old new result

abbrev pub SettlesAt : {U : Type 0} → Option Moment → List Row → List Row → ℕ → List ℕ → Settled → Result U KeepRefusal → Type 0
SettlesAt moment old new desk reference settled result = ChangesAt moment (MaySettle old desk reference) (settled_rows desk reference settled old) old new result

-- a reading that fails at this moment, or doesn't fail
abbrev pub ReadsAt : {T : Type 0} → Option Moment → Result T KeepRefusal → Type 0
ReadsAt None result = result ≢ Err Failed
ReadsAt (Some moment) result = result ≡ Err Failed
