-- A link, over rows that may be told or not.
use Rattle.std.proofs.Common.{◌≡◌, ◌⊎◌, inl, inr, ℕ, ◌+◌, ◌<◌, ◌≤◌, List, [], ◌∷◌, length, Option, Some, None, Bool, true, false, cond, leb, refl, sym, ap, ◌∙◌, subst, arith}
use Rattle.std.specs.Prelude.{Result, Ok, Err, IfOk, IfErr, IsTrue, is_some, is_none, option_map, option_and_then, nat_le}
use Rattle.std.specs.List.{All}
use Rattle.std.proofs.lemmas.Bool.Decides.{nat_tests}
use Rattle.eac_base.specs.Telling.{Told}
use Rattle.eac_base.proofs.Tellings.{told_then, told_more, told_same}
use Rattle.signature_provider.specs.Provider.{Says, Holds, Signed}
use Rattle.keeper.specs.declared.rows.Row.{Row}
use Rattle.keeper.specs.declared.rows.Table.TheVariants as table
use Rattle.keeper.specs.Rows.{row_at, most_rows}
use Rattle.keeper.specs.Keeping.{IsDeskRow}
use Rattle.holder_core.specs.Faults.{KeeperCause}
use Rattle.holder_core.specs.Numbers.{most_keys, reference_after}
use Rattle.holder_core.specs.OwnRows.{own_rows}
use Rattle.holder_core.specs.Signers.{Signer, missing_of}
use Rattle.holder_core.specs.declared.adding.Added.{Added}
use Rattle.holder_core.specs.declared.adding.Added.TheVariants as added
use Rattle.holder_core.specs.declared.fault.HolderFault.{HolderFault}
use Rattle.holder_core.specs.declared.fault.HolderFault.TheVariants as fault
use Rattle.cvca_desk.specs.declared.due.Due.{Due}
use Rattle.cvca_desk.specs.declared.terms.Terms.{Terms}
use Rattle.cvca_desk.specs.declared.linking.Linked.{Linked}
use Rattle.cvca_desk.specs.declared.linking.Linked.TheVariants as linked
use Rattle.cvca_desk.specs.declared.linking.Plan.{Plan}
use Rattle.cvca_desk.specs.Terms.{dates}
use Rattle.cvca_desk.specs.Signing.{SignsNothing}
use Rattle.cvca_desk.specs.Asking.{AsksDue}
use Rattle.cvca_desk.specs.Entering.{Enters, AsksAdded}
use Rattle.cvca_desk.specs.Linking.{link_signer, link_refused, link_late, link_after, linked_as, refused_by, link_due, late_in, Links, SignsLink, AsksLink, MissesLink, MissesSigner, Plans, Linking, Entered}
use Rattle.cvca_desk.proofs.Calls.{Before, rows_new, rows_gone, rows_full, rows_fault, signs_new, signs_gone, signs_full, signs_fault}

-- ---- what a plan says

few_below : (b : Bool) (rest : Option Linked) → cond b (Some linked.Exhausted) rest ≡ None → b ≡ false
few_below true rest e = absurd (cc)
few_below false rest e = refl

not_leb : (m n : ℕ) → nat_le m n ≡ false → n < m
not_leb m n e = grind (arith, nat_tests)

-- where nothing is refused below this row
few_below_signer : (day : ℕ) (t : Terms) (own : List Row) (signer : Option Signer) → link_refused own day (dates t day) signer ≡ None → length own < 99999
few_below_signer day t own None e = absurd (cc)
few_below_signer day t own (Some s) e = not_leb most_keys (length own) (few_below (nat_le most_keys (length own)) _ e)

pub few_allowed : (day : ℕ) (t : Terms) (own : List Row) → refused_by day t own ≡ None → length own < 99999
few_allowed day t own e = few_below_signer day t own (link_signer own) e

pub few_own : (day : ℕ) (t : Terms) (own : List Row) (p : Plan) → Plans day t own (Ok p) → length own < 99999
few_own day t own p planned = few_allowed day t own planned.0

module _ (says : Says) (held holds : Holds) (signed : Signed × Signed) (desk : ℕ) where
  -- ---- what is due is entered

  module _ (t : Terms) (count : ℕ) (by : Signer) (days : ℕ × ℕ) (d : Due) (is : d ≡ link_after t count by days) (day : ℕ) (before : List Row) (counted : count ≡ length (own_rows desk before)) (planned : Plans day t (own_rows desk before) (Ok (record { signing = by; days = days }))) where
    due_here : link_due day t (own_rows desk before) ≡ Some d
    due_here = (λ i. option_and_then (λ s. option_map (link_after t (length (own_rows desk before)) s) (dates t day)) (planned.1 i))
        ∙ ap (option_map (link_after t (length (own_rows desk before)) by)) planned.2
        ∙ (λ i. Some (link_after t (sym counted i) by days)) ∙ ap Some (sym is)

    reference_is : d.reference ≡ reference_after t.holder (own_rows desk before)
    reference_is = ap (λ (x : Due). x.reference) is ∙ (λ i. (link_after t (counted i) by days).reference)

    at_next : (o : Option Row) → row_at table.Own desk d.reference before ≡ o → row_at table.Own desk (reference_after t.holder (own_rows desk before)) before ≡ o
    at_next o e = (λ i. row_at table.Own desk (sym reference_is i) before) ∙ e

    known : Before linked.Exhausted held desk d (refused_by day t (own_rows desk before)) (late_in held holds desk day t before) (missing_of held (link_signer (own_rows desk before))) (link_due day t (own_rows desk before)) before
    known = record {
      allowed = planned.0;
      due_is = due_here;
      misses = λ r e. ap (missing_of held) (planned.1 ∙ ap (λ (x : Due). x.by) (sym is)) ∙ e;
      free = λ e. ap (λ (x : Option Row). link_late (is_some x)) (at_next None e);
      taken = λ kept e. ap (λ (x : Option Row). link_late (is_some x)) (at_next (Some kept) e);
      room = λ full. let few : length (own_rows desk before) < 99999 = few_own day t (own_rows desk before) (record { signing = by; days = days }) planned in omega (arith, full, few);
    }

    entered_ok : (after : List Row) (a : Added) → Enters says held holds signed desk d before after (Ok a) → Linking says held holds signed desk day t before after (Ok (linked_as d.reference a))
    entered_ok after added.New e = record { rows = rows_new linked.New linked.Exhausted says held holds signed desk d _ _ _ (link_due day t (own_rows desk before)) before known after e; signs = inl (signs_new linked.New linked.Exhausted says held holds signed desk d _ _ _ (link_due day t (own_rows desk before)) before known after e) }
    entered_ok after (added.There kept) e = record { rows = rows_gone linked.New linked.Exhausted says held holds signed desk d _ _ _ (link_due day t (own_rows desk before)) before known after kept e; signs = signs_gone linked.New linked.Exhausted says held holds signed desk d _ _ _ (link_due day t (own_rows desk before)) before known after kept e }
    entered_ok after added.Full e = record { rows = rows_full linked.New linked.Exhausted says held holds signed desk d _ _ _ (link_due day t (own_rows desk before)) before known after e; signs = signs_full linked.New linked.Exhausted says held holds signed desk d _ _ _ (link_due day t (own_rows desk before)) before known after e }

    entered_err : (after : List Row) (f : HolderFault) → Enters says held holds signed desk d before after (Err f) → Linking says held holds signed desk day t before after (Err f)
    entered_err after f e = record { rows = rows_fault linked.New linked.Exhausted says held holds signed desk d _ _ _ (link_due day t (own_rows desk before)) before known after f e; signs = signs_fault linked.New linked.Exhausted says held holds signed desk d _ _ _ (link_due day t (own_rows desk before)) before known after f e }

  module _ (t : Terms) (count : ℕ) (by : Signer) (days : ℕ × ℕ) (o o' : Option (List Row)) where
    pub told_new : (d : Due) (reference : List ℕ) (a : Added) (r : Result Added HolderFault) (answer : Linked) → d ≡ link_after t count by days → reference ≡ d.reference → r ≡ Ok a → answer ≡ linked_as reference a → Told o o' (λ b c. Enters says held holds signed desk d b c r) → Told o o' (λ b c. Entered says held holds signed desk t count by days b c (Ok answer))
    told_new d reference a r answer is named was gives told = told_more (λ b c. Enters says held holds signed desk d b c r) (λ b c. Entered says held holds signed desk t count by days b c (Ok answer)) o o' told
        (λ b c e day counted planned. subst (λ (x : Linked). Linking says held holds signed desk day t b c (Ok x)) (ap (λ (x : List ℕ). linked_as x a) (sym named) ∙ sym gives)
        (entered_ok t count by days d is day b counted planned c a (subst (λ (x : Result Added HolderFault). Enters says held holds signed desk d b c x) was e)))

    pub told_fault : (d : Due) (f : HolderFault) (r : Result Added HolderFault) (result : Result Linked HolderFault) → d ≡ link_after t count by days → r ≡ Err f → result ≡ Err f → Told o o' (λ b c. Enters says held holds signed desk d b c r) → Told o o' (λ b c. Entered says held holds signed desk t count by days b c result)
    told_fault d f r result is was gives told = told_more (λ b c. Enters says held holds signed desk d b c r) (λ b c. Entered says held holds signed desk t count by days b c result) o o' told
        (λ b c e day counted planned. subst (λ (x : Result Linked HolderFault). Linking says held holds signed desk day t b c x) (sym gives)
        (entered_err t count by days d is day b counted planned c f (subst (λ (x : Result Added HolderFault). Enters says held holds signed desk d b c x) was e)))

  -- ---- behind the list of own rows

  module _ (day : ℕ) (t : Terms) (o o' : Option (List Row)) where
    listed : (own : List Row) (r : Result (List Row) HolderFault) (b : List Row) → r ≡ Ok own → IfOk r (λ rows. rows ≡ own_rows desk b) → own ≡ own_rows desk b
    listed own r b was e = subst (λ (x : Result (List Row) HolderFault). IfOk x (λ rows. rows ≡ own_rows desk b)) was e

    pub told_next : (o'' : Option (List Row)) (own seen : List Row) (count : ℕ) (r : Result (List Row) HolderFault) (p : Plan) (result : Result Linked HolderFault) → r ≡ Ok own → seen ≡ own → count ≡ length own → Plans day t seen (Ok p) → Told o o' (λ b c. (c ≡ b) × IfOk r (λ rows. rows ≡ own_rows desk b)) → Told o' o'' (λ b c. Entered says held holds signed desk t count p.signing p.days b c result) → Told o o'' (λ b c. Linking says held holds signed desk day t b c result)
    told_next o'' own seen count r p result was same counted planned told entered =
        told_then (λ b c. (c ≡ b) × IfOk r (λ rows. rows ≡ own_rows desk b)) (λ b c. Entered says held holds signed desk t count p.signing p.days b c result) (λ b c. Linking says held holds signed desk day t b c result) o o' o'' told entered
        (λ b m c e next.
        let here : own ≡ own_rows desk b = listed own r b was e.1 in
        let there : own_rows desk b ≡ own_rows desk m = ap (own_rows desk) (sym e.0) in
        subst (λ (x : List Row). Linking says held holds signed desk day t x c result) e.0
        (next day (counted ∙ ap length (here ∙ there)) (subst (λ (x : List Row). Plans day t x (Ok p)) (same ∙ here ∙ there) planned)))

-- ---- each part of it

module _ (says : Says) (held holds : Holds) (signed : Signed × Signed) (desk day : ℕ) (t : Terms) (o o' : Option (List Row)) (result : Result Linked HolderFault) (told : Told o o' (λ b c. Linking says held holds signed desk day t b c result)) where
  pub told_rows : Told o o' (λ b c. Links held holds desk day t says b c result)
  told_rows = told_more (λ b c. Linking says held holds signed desk day t b c result) (λ b c. Links held holds desk day t says b c result) o o' told (λ b c l. l.rows)

  pub told_signs : Told o o' (λ b c. SignsLink held holds desk day t signed b c result)
  told_signs = told_more (λ b c. Linking says held holds signed desk day t b c result) (λ b c. SignsLink held holds desk day t signed b c result) o o' told (λ b c l. l.signs)

-- whose key was missing
pub misses_link : (held : Holds) (desk day : ℕ) (t : Terms) (own seen : List Row) (p : Plan) → All (IsDeskRow table.Own desk) own → seen ≡ own → Plans day t seen (Ok p) → (r : List ℕ) → MissesSigner held p.signing r → MissesLink held desk day t r
misses_link held desk day t own seen p asked same planned r missing = record { own = seen; own_asked = subst (λ (x : List Row). All (IsDeskRow table.Own desk) x) (sym same) asked; allowed = planned.0; missing = ap (missing_of held) planned.1 ∙ missing }
