-- Looks at the keeper, one after another, leave its rows.
use Rattle.std.proofs.Common.{◌≡◌, List, Option, ◌∙◌, sym, subst}
use Rattle.std.specs.Prelude.{Result, Err, IfOk}
use Rattle.eac_base.specs.Telling.{Told}
use Rattle.eac_base.proofs.Tellings.{told_then}
use Rattle.keeper.specs.declared.rows.Row.{Row}
use Rattle.issue_core.specs.declared.fault.IssueFault.{IssueFault}

pub still : (o o' o'' : Option (List Row)) (P Q : List Row → Type 0) → Told o o' (λ b a. (a ≡ b) × P b) → Told o' o'' (λ b a. (a ≡ b) × Q b) → Told o o'' (λ b a. (a ≡ b) × Unit {0})
still o o' o'' P Q first next = told_then (λ b a. (a ≡ b) × P b) (λ b a. (a ≡ b) × Q b) (λ b a. (a ≡ b) × Unit {0}) o o' o'' first next (λ b m a s t. (t.0 ∙ s.0, tt))

-- a fault says nothing of the rows
pub still_unseen : {A : Type 0} (o o' : Option (List Row)) (P : A → List Row → Type 0) (f : IssueFault) (r : Result A IssueFault) → r ≡ Err f → Told o o' (λ b a. (a ≡ b) × Unit {0}) → Told o o' (λ b a. (a ≡ b) × IfOk r (λ x. P x b))
still_unseen {A} o o' P f r is told = subst (λ (x : Result A IssueFault). Told o o' (λ b a. (a ≡ b) × IfOk x (λ y. P y b))) (sym is) told
