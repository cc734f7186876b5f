-- Causes of the register's answers, for every keeper.
use Rattle.std.proofs.Common.{◌≡◌, ℕ, List, Option, Some, None, Bool, true, false, cond, refl, sym, subst, inl, inr}
use Rattle.std.specs.Prelude.{Result, Ok, Err, IfOk, IfSome, nat_le}
use Rattle.std.specs.Str.{bytes_eq}
use Rattle.keeper.specs.declared.rows.Row.{Row}
use Rattle.keeper.specs.declared.rows.Part.{Part}
use Rattle.keeper.specs.declared.rows.Part.TheVariants as part
use Rattle.keeper.specs.declared.rows.Table.TheVariants.{Register as RegisterTable}
use Rattle.keeper.specs.declared.keeping.KeepRefusal.{KeepRefusal}
use Rattle.keeper.specs.declared.keeping.KeepRefusal.TheVariants as refusal
use Rattle.keeper.specs.Rows.{most_rows}
use Rattle.keeper.specs.Keeping.{IsAsked, AddAsked}
use Rattle.issue_core.specs.declared.rule.Rule.TheVariants.{Used, Full}
use Rattle.issue_core.specs.declared.registering.serving.RegisterAnswer.{RegisterAnswer}
use Rattle.issue_core.specs.declared.registering.serving.RegisterAnswer.TheVariants.{Kept, Refused}
use Rattle.issue_core.specs.declared.fault.IssueFault.{IssueFault}
use Rattle.issue_core.specs.Registering.Desk.{row_of, again_of, RegisterCause}
use Rattle.issue_core.specs.Registering.Steps.{full_answer, row_answer, answer_of}

module _ (reference bytes day : List ℕ) where
  -- ---- a row of the reference

  bytes_say : (row : Row) (b : Bool) (given : List ℕ) → IsAsked RegisterTable 0 reference row → cond b (Kept given) (Refused Used) ≡ again_of row.part bytes → RegisterCause reference bytes day (cond b (Kept given) (Refused Used))
  bytes_say row true given asked is = record { row = row; asked = asked; says = is }
  bytes_say row false given asked is = inl (record { row = row; asked = asked; says = is })

  part_says : (row : Row) (q : Part) → IsAsked RegisterTable 0 reference row → again_of q bytes ≡ again_of row.part bytes → RegisterCause reference bytes day (again_of q bytes)
  part_says row (part.Register request given) asked is = bytes_say row (bytes_eq request bytes) given asked is
  part_says row (part.Issued p) asked is = inl (record { row = row; asked = asked; says = is })
  part_says row (part.Own p) asked is = inl (record { row = row; asked = asked; says = is })
  part_says row (part.Ca p) asked is = inl (record { row = row; asked = asked; says = is })

  found_says : (found : Option Row) → IfSome found (IsAsked RegisterTable 0 reference) → IfSome (row_answer found bytes) (RegisterCause reference bytes day)
  found_says (Some row) asked = part_says row row.part asked refl
  found_says None asked = tt

  pub row_says : (found : Option Row) (o : Option RegisterAnswer) → IfSome found (IsAsked RegisterTable 0 reference) → o ≡ row_answer found bytes → IfSome o (RegisterCause reference bytes day)
  row_says found o asked is = subst (λ (x : Option RegisterAnswer). IfSome x (RegisterCause reference bytes day)) (sym is) (found_says found asked)

  -- ---- a count

  if_full : (b : Bool) → IfSome (cond b (Some (Refused Full)) None) (RegisterCause reference bytes day)
  if_full true = inr refl
  if_full false = tt

  pub count_says : (count : ℕ) (o : Option RegisterAnswer) → o ≡ full_answer count → IfSome o (RegisterCause reference bytes day)
  count_says count o is = subst (λ (x : Option RegisterAnswer). IfSome x (RegisterCause reference bytes day)) (sym is) (if_full (nat_le most_rows count))

  -- ---- an adding

  added_says : {U : Type 0} (kept : List ℕ) (added : Result U KeepRefusal) → AddAsked (row_of reference kept day) added → IfOk (answer_of added day bytes) (RegisterCause reference bytes day)
  added_says kept (Ok u) asked = refl
  added_says kept (Err (refusal.Twice row)) asked = part_says row row.part asked refl
  added_says kept (Err refusal.Full) asked = inr refl
  added_says kept (Err refusal.Failed) asked = tt
  added_says kept (Err refusal.Absent) asked = tt
  added_says kept (Err refusal.NoMemory) asked = tt

  pub adding_says : {U : Type 0} (kept : List ℕ) (added : Result U KeepRefusal) (result : Result RegisterAnswer IssueFault) → AddAsked (row_of reference kept day) added → result ≡ answer_of added day bytes → IfOk result (RegisterCause reference bytes day)
  adding_says kept added result asked is = subst (λ (x : Result RegisterAnswer IssueFault). IfOk x (RegisterCause reference bytes day)) (sym is) (added_says kept added asked)
