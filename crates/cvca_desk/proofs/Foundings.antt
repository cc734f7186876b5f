-- A founding, over rows that may be told or not.
use Rattle.std.proofs.Common.{◌≡◌, inl, inr, ℕ, ◌≤◌, List, [], ◌∷◌, length, Option, Some, None, Bool, true, false, cond, refl, sym, ap, ◌∙◌, subst, arith}
use Rattle.std.specs.Prelude.{Result, Ok, Err, IfOk, IfErr, IfSome, ◌&&◌, is_none, nat_lt, option_map}
use Rattle.std.specs.Str.{bytes_eq}
use Rattle.std.proofs.lemmas.Bool.Decides.{nat_tests}
use Rattle.eac_base.specs.Telling.{Told}
use Rattle.eac_base.proofs.Tellings.{told_then, told_more, told_same}
use Rattle.signature_provider.specs.Provider.{Says, Holds, Signed}
use Rattle.keeper.specs.declared.rows.Row.{Row}
use Rattle.keeper.specs.declared.rows.Table.TheVariants as table
use Rattle.keeper.specs.Rows.{row_at, is_of}
use Rattle.holder_core.specs.Faults.{KeeperCause}
use Rattle.holder_core.specs.OwnRows.{own_rows}
use Rattle.holder_core.specs.Signers.{missing_of}
use Rattle.holder_core.specs.declared.adding.Added.{Added}
use Rattle.holder_core.specs.declared.adding.Added.TheVariants as added
use Rattle.holder_core.specs.declared.fault.HolderFault.{HolderFault}
use Rattle.holder_core.specs.declared.fault.HolderFault.TheVariants as fault
use Rattle.cvca_desk.specs.declared.due.Due.{Due}
use Rattle.cvca_desk.specs.declared.terms.Terms.{Terms}
use Rattle.cvca_desk.specs.declared.founding.Founded.{Founded}
use Rattle.cvca_desk.specs.declared.founding.Founded.TheVariants as founded
use Rattle.cvca_desk.specs.Terms.{dates}
use Rattle.cvca_desk.specs.Signing.{SignsNothing}
use Rattle.cvca_desk.specs.Asking.{AsksDue}
use Rattle.cvca_desk.specs.Entering.{Enters, AsksAdded}
use Rattle.cvca_desk.specs.Founding.{found_refused, founding_of, founding_due, founded_as, Founds, SignsFounding, AsksFounding, Plans, Found, Entered}
use Rattle.cvca_desk.proofs.Calls.{Before, rows_new, rows_gone, rows_full, rows_fault, signs_new, signs_gone, signs_full, signs_fault}

-- ---- no own row is there

one_row : (b c : Bool) (row : Row) (own : List Row) (found : Option Row) → length (cond b (row ∷ own) own) ≡ 0 → (length own ≡ 0 → found ≡ None) → cond (b && c) (Some row) found ≡ None
one_row true c row own found e more = absurd (omega (arith, e))
one_row false c row own found e more = more e

none_there : (desk : ℕ) (reference : List ℕ) (rows : List Row) → length (own_rows desk rows) ≡ 0 → row_at table.Own desk reference rows ≡ None
none_there desk reference [] e = refl
none_there desk reference (row ∷ rows) e = one_row (is_of table.Own desk row) (bytes_eq row.reference reference) row (own_rows desk rows) (row_at table.Own desk reference rows) e (none_there desk reference rows)

none_counted : (b : Bool) (n : ℕ) (rest : Option Founded) → nat_lt 0 n ≡ b → cond b (Some founded.AlreadyFounded) rest ≡ None → n ≡ 0
none_counted true n rest is e = absurd (cc)
none_counted false n rest is e = grind (arith, nat_tests)

pub no_count : (n : ℕ) (days : Option (ℕ × ℕ)) → found_refused n days ≡ None → n ≡ 0
no_count n days e = none_counted (nat_lt 0 n) n (cond (is_none days) (Some founded.Short) None) refl e

module _ (says : Says) (held holds : Holds) (signed : Signed × Signed) (desk : ℕ) where
  -- ---- what is due is entered

  module _ (t : Terms) (days : ℕ × ℕ) (d : Due) (is : d ≡ founding_of t days) (day : ℕ) (dated : dates t day ≡ Some days) (before : List Row) (allowed : found_refused (length (own_rows desk before)) (Some days) ≡ None) where
    empty : length (own_rows desk before) ≡ 0
    empty = no_count (length (own_rows desk before)) (Some days) allowed

    known : Before founded.AlreadyFounded held desk d (found_refused (length (own_rows desk before)) (dates t day)) None None (founding_due t day) before
    known = record {
      allowed = ap (found_refused (length (own_rows desk before))) dated ∙ allowed;
      due_is = ap (option_map (founding_of t)) dated ∙ ap Some (sym is);
      misses = λ r e. absurd (no_signer r (subst (λ (x : Due). missing_of held x.by ≡ Some r) is e));
      free = λ e. refl;
      taken = λ kept e. absurd (none_kept kept (sym (none_there desk d.reference before empty) ∙ e));
      room = λ full. omega (arith, full, empty);
    }
      where
        no_signer : (r : List ℕ) → ◌≡◌ {A = Option (List ℕ)} None (Some r) → ⊥
        no_signer r e = absurd (cc)

        none_kept : (kept : Row) → ◌≡◌ {A = Option Row} None (Some kept) → ⊥
        none_kept kept e = absurd (cc)

    named : d.reference ≡ (founding_of t days).reference
    named = ap (λ (x : Due). x.reference) is

    entered_ok : (after : List Row) (a : Added) → Enters says held holds signed desk d before after (Ok a) → Found says held holds signed desk day t before after (Ok (founded_as d.reference a))
    entered_ok after added.New e = record { rows = rows_new founded.New founded.AlreadyFounded says held holds signed desk d _ None None (founding_due t day) before known after e; signs = inl (signs_new founded.New founded.AlreadyFounded says held holds signed desk d _ None None (founding_due t day) before known after e) }
    entered_ok after (added.There kept) e = record { rows = rows_gone founded.New founded.AlreadyFounded says held holds signed desk d _ None None (founding_due t day) before known after kept e; signs = signs_gone founded.New founded.AlreadyFounded says held holds signed desk d _ None None (founding_due t day) before known after kept e }
    entered_ok after added.Full e = record { rows = rows_full founded.New founded.AlreadyFounded says held holds signed desk d _ None None (founding_due t day) before known after e; signs = signs_full founded.New founded.AlreadyFounded says held holds signed desk d _ None None (founding_due t day) before known after e }

    entered_err : (after : List Row) (f : HolderFault) → Enters says held holds signed desk d before after (Err f) → Found says held holds signed desk day t before after (Err f)
    entered_err after f e = record { rows = rows_fault founded.New founded.AlreadyFounded says held holds signed desk d _ None None (founding_due t day) before known after f e; signs = signs_fault founded.New founded.AlreadyFounded says held holds signed desk d _ None None (founding_due t day) before known after f e }

  module _ (t : Terms) (days : ℕ × ℕ) (o o' : Option (List Row)) where
    pub told_new : (d : Due) (reference : List ℕ) (a : Added) (r : Result Added HolderFault) (answer : Founded) → d ≡ founding_of t days → reference ≡ d.reference → r ≡ Ok a → answer ≡ founded_as reference a → Told o o' (λ b c. Enters says held holds signed desk d b c r) → Told o o' (λ b c. Entered says held holds signed desk t days b c (Ok answer))
    told_new d reference a r answer is named was gives told = told_more (λ b c. Enters says held holds signed desk d b c r) (λ b c. Entered says held holds signed desk t days b c (Ok answer)) o o' told
        (λ b c e day dated allowed. subst (λ (x : Founded). Found says held holds signed desk day t b c (Ok x)) (ap (λ (x : List ℕ). founded_as x a) (sym named) ∙ sym gives)
        (entered_ok t days d is day dated b allowed c a (subst (λ (x : Result Added HolderFault). Enters says held holds signed desk d b c x) was e)))

    pub told_fault : (d : Due) (f : HolderFault) (r : Result Added HolderFault) (result : Result Founded HolderFault) → d ≡ founding_of t days → r ≡ Err f → result ≡ Err f → Told o o' (λ b c. Enters says held holds signed desk d b c r) → Told o o' (λ b c. Entered says held holds signed desk t days b c result)
    told_fault d f r result is was gives told = told_more (λ b c. Enters says held holds signed desk d b c r) (λ b c. Entered says held holds signed desk t days b c result) o o' told
        (λ b c e day dated allowed. subst (λ (x : Result Founded HolderFault). Found says held holds signed desk day t b c x) (sym gives)
        (entered_err t days d is day dated b allowed c f (subst (λ (x : Result Added HolderFault). Enters says held holds signed desk d b c x) was e)))

  -- ---- behind the count

  module _ (day : ℕ) (t : Terms) (o o' : Option (List Row)) where
    counted : (n : ℕ) (r : Result ℕ HolderFault) (b : List Row) → r ≡ Ok n → IfOk r (λ m. m ≡ length (own_rows desk b)) → n ≡ length (own_rows desk b)
    counted n r b was e = subst (λ (x : Result ℕ HolderFault). IfOk x (λ m. m ≡ length (own_rows desk b))) was e

    pub told_first : (o'' : Option (List Row)) (n : ℕ) (r : Result ℕ HolderFault) (days : ℕ × ℕ) (result : Result Founded HolderFault) → r ≡ Ok n → Plans day t n (Ok days) → Told o o' (λ b c. (c ≡ b) × IfOk r (λ m. m ≡ length (own_rows desk b))) → Told o' o'' (λ b c. Entered says held holds signed desk t days b c result) → Told o o'' (λ b c. Found says held holds signed desk day t b c result)
    told_first o'' n r days result was planned told entered =
        told_then (λ b c. (c ≡ b) × IfOk r (λ m. m ≡ length (own_rows desk b))) (λ b c. Entered says held holds signed desk t days b c result) (λ b c. Found says held holds signed desk day t b c result) o o' o'' told entered
        (λ b m c e next. subst (λ (x : List Row). Found says held holds signed desk day t x c result) e.0
        (next day planned.1
        (ap (λ (x : List Row). found_refused (length (own_rows desk x)) (Some days)) e.0
        ∙ ap (λ (x : ℕ). found_refused x (Some days)) (sym (counted n r b was e.1))
        ∙ ap (found_refused n) (sym planned.1) ∙ planned.0)))

-- ---- each part of it

module _ (says : Says) (held holds : Holds) (signed : Signed × Signed) (desk day : ℕ) (t : Terms) (o o' : Option (List Row)) (result : Result Founded HolderFault) (told : Told o o' (λ b c. Found says held holds signed desk day t b c result)) where
  pub told_rows : Told o o' (λ b c. Founds held holds desk day t says b c result)
  told_rows = told_more (λ b c. Found says held holds signed desk day t b c result) (λ b c. Founds held holds desk day t says b c result) o o' told (λ b c f. f.rows)

  pub told_signs : Told o o' (λ b c. SignsFounding held holds desk day t signed b c result)
  told_signs = told_more (λ b c. Found says held holds signed desk day t b c result) (λ b c. SignsFounding held holds desk day t signed b c result) o o' told (λ b c f. f.signs)
