-- Links on numbered rows: none has the reference of the next key.
use Rattle.std.proofs.Common.{◌≡◌, inl, inr, ℕ, ◌+◌, ◌<◌, List, length, Option, Some, None, refl, sym, ap, ◌∙◌, arith}
use Rattle.std.specs.Prelude.{Result, Ok, Err, is_some}
use Rattle.eac_base.specs.Telling.{Told}
use Rattle.eac_base.proofs.Tellings.{told_more}
use Rattle.signature_provider.specs.Provider.{Says, Holds, Signed}
use Rattle.keeper.specs.declared.rows.Row.{Row}
use Rattle.holder_core.specs.OwnRows.{own_rows}
use Rattle.holder_core.specs.Lawful.{AreNumbered}
use Rattle.holder_core.proofs.Lawfuls.{none_beyond}
use Rattle.holder_core.specs.WritesOnce.{WritesOnce}
use Rattle.holder_core.specs.declared.fault.HolderFault.{HolderFault}
use Rattle.holder_core.specs.declared.fault.HolderFault.TheVariants as fault
use Rattle.cvca_desk.specs.declared.due.Due.{Due}
use Rattle.cvca_desk.specs.declared.terms.Terms.{Terms}
use Rattle.cvca_desk.specs.declared.linking.Linked.{Linked}
use Rattle.cvca_desk.specs.Signing.{MayLose, SignsOwn}
use Rattle.cvca_desk.specs.Linking.{refused_by, link_late, late_in, LinksExactly, Linking}
use Rattle.cvca_desk.proofs.Linkings.{few_allowed}

-- ---- a call

module _ {A : Type 0} (unwritten late : Option A) (missing : Option (List ℕ)) (none : unwritten ≡ None → late ≡ None) where
  not_late : (answer : A) → unwritten ≡ None → late ≡ Some answer → ◌≡◌ {A = Option A} None (Some answer)
  not_late answer due there = sym (none due) ∙ there

  no_answer : (answer : A) → ◌≡◌ {A = Option A} None (Some answer) → ⊥
  no_answer answer e = absurd (cc)

  pub exact_rows : (W : A → List Row → Type 0) (before after : List Row) (r : Result A HolderFault) → WritesOnce unwritten missing late W before after r → WritesOnce unwritten missing None W before after r
  exact_rows W before after (Ok answer) (inl (inl is, same)) = inl (inl is, same)
  exact_rows W before after (Ok answer) (inl (inr l, same)) = absurd (no_answer answer (not_late answer l.due l.there))
  exact_rows W before after (Ok answer) (inr w) = inr (record { due = w.due; new = refl; written = w.written })
  exact_rows W before after (Err fault.KeeperFault) (inl same) = inl same
  exact_rows W before after (Err fault.KeeperFault) (inr w) = inr (w.0, record { due = w.1.due; new = refl; written = w.1.written })
  exact_rows W before after (Err fault.ProviderFault) w = w
  exact_rows W before after (Err fault.NoMemory) w = w
  exact_rows W before after (Err (fault.NoKey r)) w = w

  exact_loss : (r : Result A HolderFault) → unwritten ≡ None → MayLose late r → MayLose None r
  exact_loss (Ok answer) due may = not_late answer due may
  exact_loss (Err fault.KeeperFault) due may = may
  exact_loss (Err fault.NoMemory) due may = may
  exact_loss (Err fault.ProviderFault) due may = may
  exact_loss (Err (fault.NoKey r)) due may = may

  pub exact_signs : (held holds : Holds) (signed : Signed × Signed) (desk : ℕ) (due : Option Due) (before after : List Row) (r : Result A HolderFault) → SignsOwn unwritten late held holds signed desk due before after r → SignsOwn unwritten None held holds signed desk due before after r
  exact_signs held holds signed desk due before after r (inl kept) = inl kept
  exact_signs held holds signed desk due before after r (inr (same, inl nothing)) = inr (same, inl nothing)
  exact_signs held holds signed desk due before after r (inr (same, inr lost)) = inr (same, inr (record { allowed = lost.allowed; d = lost.d; due_is = lost.due_is; pair = lost.pair; may = exact_loss r lost.allowed lost.may }))

module _ (says : Says) (held holds : Holds) (signed : Signed × Signed) (desk day : ℕ) (t : Terms) where
  late_none : (before : List Row) → AreNumbered desk t.holder before → refused_by day t (own_rows desk before) ≡ None → late_in held holds desk day t before ≡ None
  late_none before are allowed =
      let few : length (own_rows desk before) < 99999 = few_allowed day t (own_rows desk before) allowed in
      ap (λ (x : Option Row). link_late (is_some x)) (none_beyond desk t.holder (length (own_rows desk before) + 1) (omega (arith, few)) before 1 are (omega arith))

  exact : (before after : List Row) (r : Result Linked HolderFault) → Linking says held holds signed desk day t before after r → LinksExactly held holds desk day t says signed before after r
  exact before after r l are = record {
    rows = exact_rows _ _ _ (late_none before are) _ before after r l.rows;
    signs = exact_signs _ _ none (late_none before are) held holds signed desk _ before after r l.signs;
  }
    where
      none : Option (List ℕ)
      none = None

  pub told_exact : (o o' : Option (List Row)) (r : Result Linked HolderFault) → Told o o' (λ b a. Linking says held holds signed desk day t b a r) → Told o o' (λ b a. LinksExactly held holds desk day t says signed b a r)
  told_exact o o' r told = told_more (λ b a. Linking says held holds signed desk day t b a r) (λ b a. LinksExactly held holds desk day t says signed b a r) o o' told (λ b a l. exact b a r l)
