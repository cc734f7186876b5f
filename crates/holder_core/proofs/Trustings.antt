-- A founding certificate that is carried by hand: the adding of its row, over rows that may be told or not.
use Rattle.std.proofs.Common.{◌≡◌, inl, inr, ℕ, ◌<◌, ◌≤◌, List, length, Option, Some, None, Bool, true, false, cond, refl, sym, ap, subst, arith}
use Rattle.std.proofs.lemmas.Bool.Decides.{nat_tests}
use Rattle.std.specs.Prelude.{Ok, IfSome, IsSome, is_some, nat_le}
use Rattle.eac_base.specs.Telling.{Told}
use Rattle.eac_base.proofs.Tellings.{told_more}
use Rattle.keeper.specs.declared.rows.Row.{Row}
use Rattle.keeper.specs.declared.rows.CaPart.{CaPart}
use Rattle.keeper.specs.declared.rows.Table.TheVariants as table
use Rattle.keeper.specs.Rows.{row_at, most_rows}
use Rattle.holder_core.specs.declared.adding.Added.{Added}
use Rattle.holder_core.specs.declared.adding.Added.TheVariants as added
use Rattle.holder_core.specs.declared.ca_rule.TakenCa.{TakenCa}
use Rattle.holder_core.specs.declared.ca_rule.TakenCa.TheVariants as taken
use Rattle.holder_core.specs.declared.ca_rule.CaRule.TheVariants as rule
use Rattle.holder_core.specs.OwnRows.{ca_rows}
use Rattle.holder_core.specs.Adding.{AddsRow, AddedAsked}
use Rattle.holder_core.specs.Trusting.{trusted_row, is_full, trust_due, unwritten, trusted_answer, Trusts, TrustCause}

-- ---- room

pub has_room : (n : ℕ) → n < most_rows → nat_le most_rows n ≡ false
has_room n h = grind (arith, nat_tests)

pub no_room : (n : ℕ) → most_rows ≤ n → nat_le most_rows n ≡ true
no_room n h = grind (arith, nat_tests)

module _ (party : ℕ) (reference : List ℕ) where
  by_tests : (rows : List Row) (a b : Bool) → is_some (row_at table.Ca party reference rows) ≡ a → is_full party rows ≡ b → trust_due party reference rows ≡ cond a (taken.Held reference) (cond b (taken.Refused rule.Full) (taken.Stored reference))
  by_tests rows a b e f = λ i. cond (e i) (taken.Held reference) (cond (f i) (taken.Refused rule.Full) (taken.Stored reference))

  trusted_in : (ca : CaPart) (b a : List Row) (x : Added) → AddsRow (trusted_row party reference ca) b a (Ok x) → Trusts party reference ca b a (Ok (trusted_answer reference x))
  trusted_in ca b a added.New w = inr (record { due = ap unwritten (by_tests b false false (ap is_some w.0.new) (has_room (length (ca_rows party b)) w.0.room)); new = refl; written = (refl, w.1) })
  trusted_in ca b a (added.There kept) w = inl (inl (ap unwritten (by_tests b true (is_full party b) (ap is_some w.0) refl)), w.1)
  trusted_in ca b a added.Full w = inl (inl (ap unwritten (by_tests b false true (ap is_some w.0) (no_room (length (ca_rows party b)) w.1))), w.2)

  pub told_trusted : (o o' : Option (List Row)) (carried : Option CaPart) (row : Row) (x : Added) (answer : TakenCa) → IfSome carried (λ ca. row ≡ trusted_row party reference ca) → answer ≡ trusted_answer reference x → Told o o' (λ b a. AddsRow row b a (Ok x)) → Told o o' (λ b a. IfSome carried (λ ca. Trusts party reference ca b a (Ok answer)))
  told_trusted o o' None row x answer is says w = told_more (λ b a. AddsRow row b a (Ok x)) (λ b a. Unit {0}) o o' w (λ b a y. tt)
  told_trusted o o' (Some ca) row x answer is says w =
      told_more (λ b a. AddsRow row b a (Ok x)) (λ b a. Trusts party reference ca b a (Ok answer)) o o' w
      (λ b a y. subst (λ (t : TakenCa). Trusts party reference ca b a (Ok t)) (sym says) (trusted_in ca b a x (subst (λ (r : Row). AddsRow r b a (Ok x)) is y)))

  says_in : (ca : CaPart) (x : Added) → AddedAsked (trusted_row party reference ca) x → TrustCause party reference (trusted_answer reference x)
  says_in ca added.New w = refl
  says_in ca (added.There kept) w = (refl, kept, w)
  says_in ca added.Full w = refl

  pub trusted_says : (carried : Option CaPart) (row : Row) (x : Added) (answer : TakenCa) → IsSome carried → IfSome carried (λ ca. row ≡ trusted_row party reference ca) → answer ≡ trusted_answer reference x → AddedAsked row x → TrustCause party reference answer
  trusted_says None row x answer some is says w = absurd (cc)
  trusted_says (Some ca) row x answer some is says w = subst (λ (t : TakenCa). TrustCause party reference t) (sym says) (says_in ca x (subst (λ (r : Row). AddedAsked r x) is w))
