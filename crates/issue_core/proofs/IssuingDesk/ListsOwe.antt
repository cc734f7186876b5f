-- What readable rows with unique keys owe a call of an issuing desk.
use Rattle.std.proofs.Common.{◌≡◌, ◌==◌, ℕ, List, [], ◌∷◌, Option, Some, None, Bool, true, false, cond, refl, sym, ◌∙◌, ap, subst}
use Rattle.std.specs.Prelude.{Ok, not, find, IfSome}
use Rattle.std.specs.List.{cons_option}
use Rattle.std.specs.Str.{bytes_eq}
use Rattle.eac_base.specs.Telling.{Told}
use Rattle.eac_base.proofs.EqualBytes.{bytes_eq-true}
use Rattle.holder_reference.specs.Reference.{holder_part}
use Rattle.signature_provider.specs.Provider.{Says}
use Rattle.signature_provider.specs.declared.key.Key.{Key}
use Rattle.cvc_grammar.specs.declared.request.Request.{Request}
use Rattle.cvc_grammar.specs.declared.request.Outer.{Outer}
use Rattle.policy_limits.specs.Setup.{SetupValue}
use Rattle.policy_limits.specs.declared.registration.Registration.{Registration}
use Rattle.keeper.specs.declared.rows.Row.{Row}
use Rattle.keeper.specs.declared.rows.Part.{Part}
use Rattle.keeper.specs.declared.rows.Part.TheVariants as part
use Rattle.keeper.specs.declared.rows.Settled.{Settled}
use Rattle.keeper.specs.declared.rows.Table.TheVariants as table
use Rattle.keeper.specs.Rows.{row_at, rows_of, UniqueKeys}
use Rattle.issue_core.specs.declared.rule.Rule.{Rule}
use Rattle.issue_core.specs.declared.rule.Rule.TheVariants as rule
use Rattle.issue_core.specs.declared.issuing.seen.Seen.{Seen}
use Rattle.issue_core.specs.declared.issuing.serving.Answer.TheVariants as answer
use Rattle.ledger.specs.Ledger.{faces}
use Rattle.issue_core.specs.Issuing.Readings.{request_of, number_in}
use Rattle.issue_core.specs.declared.issuing.signer_row.Signer.{Signer}
use Rattle.issue_core.specs.declared.issuing.voucher_row.Voucher.{Voucher}
use Rattle.issue_core.specs.Issuing.Rules.{Case, Issue, signer_of, settled_as, signers, named, ca_voucher, first_ca, or_else, is_home, first_of, rules, is_broken}
use Rattle.issue_core.specs.Issuing.Desk.{issuing}
use Rattle.issue_core.specs.Issuing.Rows.{entries_at, has_reference, AreIssued, AreReadable, NoEntry}
use Rattle.issue_core.specs.Issuing.Looks.{signer_at, signer_seen, issued_for, ca_in, outer_seen, IsSeen}
use Rattle.issue_core.specs.Issuing.SeenRules.{outer_said, voucher_for, Agrees}
use Rattle.issue_core.specs.Issuing.Calls.{case_of, bare_case, inner_said, outer_bit, kept_answer}
use Rattle.issue_core.specs.Issuing.Steps.{Fresh, Again, ByLists}
use Rattle.issue_core.proofs.IssuingDesk.IssuedLists.{row_is, AreApart, apart, are_issued, no_entry, unread_lacks, FoundEntry, found_entry, count_entries, held_entries, live_entries, issued_vouches}
use Rattle.issue_core.proofs.IssuingDesk.LookedBy.{looked_where_owed}

-- ---- own rows

one_value : {A : Type 0} (x y : A) → Some x ≡ Some y → x ≡ y
one_value {A} x y e = ap (λ (o : Option A). value_or o x) e
  where
    value_or : Option A → A → A
    value_or (Some z) d = z
    value_or None d = d

settled_named : (reference : List ℕ) (key : Key) (o : Option Settled) (s : Signer) → settled_as reference key o ≡ Some s → s.reference ≡ reference
settled_named reference key (Some t) s e = sym (ap (λ (x : Signer). x.reference) (one_value (record { reference = reference; key = key; settled = t }) s e))
settled_named reference key None s e = absurd (cc)

signer_named : (reference : List ℕ) (q : Part) (s : Signer) → signer_of reference q ≡ Some s → s.reference ≡ reference
signer_named reference (part.Own p) s e = settled_named reference p.key p.settled s e
signer_named reference (part.Register a b) s e = absurd (cc)
signer_named reference (part.Issued p) s e = absurd (cc)
signer_named reference (part.Ca p) s e = absurd (cc)

signer_cond : (b : Bool) (row : Row) (o : Option Row) → signer_at (cond b (Some row) o) ≡ cond b (signer_of row.reference row.part) (signer_at o)
signer_cond true row o = refl
signer_cond false row o = refl

sign_step : (b : Bool) (reference : List ℕ) (o : Option Signer) (ss : List Signer) (found : Option Signer) → ((s : Signer) → o ≡ Some s → bytes_eq s.reference reference ≡ b) → (b ≡ true → found ≡ None) → found ≡ find (λ s. bytes_eq s.reference reference) ss → cond b o found ≡ find (λ s. bytes_eq s.reference reference) (cons_option o ss)
sign_step b reference (Some s) ss found same none is = (λ i. cond (sym (same s refl) i) (Some s) (is i))
sign_step true reference None ss found same none is = sym (none refl) ∙ is
sign_step false reference None ss found same none is = is

pub signs_at : (reference : List ℕ) (rows : List Row) → AreApart rows → signer_at (find (has_reference reference) rows) ≡ find (λ s. bytes_eq s.reference reference) (signers rows)
signs_at reference [] h = refl
signs_at reference (row ∷ rows) h =
    signer_cond (bytes_eq row.reference reference) row (find (has_reference reference) rows)
    ∙ sign_step (bytes_eq row.reference reference) reference (signer_of row.reference row.part) (signers rows) (signer_at (find (has_reference reference) rows))
    (λ s e. ap (λ (x : List ℕ). bytes_eq x reference) (signer_named row.reference row.part s e))
    (λ same. ap signer_at ((λ j. find (has_reference (sym (bytes_eq-true row.reference reference same) j)) rows) ∙ h.0))
    (signs_at reference rows h.1)

-- ---- rows of other authorities

ca_cond : (b : Bool) (row : Row) (o : Option Row) → ca_in (cond b (Some row) o) ≡ cond b (ca_voucher row.part) (ca_in o)
ca_cond true row o = refl
ca_cond false row o = refl

ca_step : (b : Bool) (v rest found : Option Voucher) → (b ≡ true → rest ≡ None) → found ≡ rest → cond b v found ≡ or_else (cond b v None) rest
ca_step true (Some v) rest found none is = refl
ca_step true None rest found none is = sym (none refl)
ca_step false v rest found none is = is

pub ca_vouches : (reference : List ℕ) (rows : List Row) → AreApart rows → ca_in (find (has_reference reference) rows) ≡ first_ca rows reference
ca_vouches reference [] h = refl
ca_vouches reference (row ∷ rows) h =
    let back = ca_vouches reference rows h.1 in
    ca_cond (bytes_eq row.reference reference) row (find (has_reference reference) rows)
    ∙ ca_step (bytes_eq row.reference reference) (ca_voucher row.part) (first_ca rows reference) (ca_in (find (has_reference reference) rows))
    (λ same. sym back ∙ ap ca_in ((λ j. find (has_reference (sym (bytes_eq-true row.reference reference same) j)) rows) ∙ h.0)) back

-- ---- the first rules

first_one : (a : Bool) (x : Option Rule) → a ≡ true → cond a (Some rule.Used) x ≡ Some rule.Used
first_one a x h = λ i. cond (h i) (Some rule.Used) x

first_two : (a b : Bool) (x : Option Rule) → a ≡ false → b ≡ true → cond a (Some rule.Used) (cond b (Some rule.Holder) x) ≡ Some rule.Holder
first_two a b x h k = λ i. cond (h i) (Some rule.Used) (cond (k i) (Some rule.Holder) x)

-- ---- what is owed

module _ (said : Says) (setup : SetupValue) (desk day : ℕ) (bytes : List ℕ) (rows : List Row) (unique : UniqueKeys rows) (readable : AreReadable rows) where
  abbrev c : Case
  c = case_of said setup desk day bytes rows

  abbrev bare : Case
  bare = bare_case setup desk day bytes rows

  abbrev issued : List Row
  issued = rows_of table.Issued desk rows

  abbrev es : List Issue
  es = faces issuing (entries_at desk rows)

  are : AreIssued issued
  are = are_issued desk rows unique readable

  signer_agrees : (authority : Option (List ℕ)) → signer_seen desk authority rows ≡ named authority (signers (rows_of table.Own desk rows))
  signer_agrees None = refl
  signer_agrees (Some reference) = ap signer_at (row_is table.Own desk reference rows) ∙ signs_at reference (rows_of table.Own desk rows) (apart table.Own desk rows unique)

  voucher_agrees : (r : Request) (g : Registration) (o : Option Outer) → outer_seen desk g.first (holder_part r.body.holder) o rows ≡ voucher_for es c r o (Some g)
  voucher_agrees r g None = refl
  voucher_agrees r g (Some o) =
      let first = ap (issued_for (holder_part r.body.holder)) (row_is table.Issued desk o.reference rows) ∙ issued_vouches r o.reference issued are in
      let home = ap ca_in (row_is table.Ca desk o.reference rows) ∙ ca_vouches o.reference (rows_of table.Ca desk rows) (apart table.Ca desk rows unique) in
      λ i. or_else (first i) (cond (is_home g.first o.reference) (home i) None)

  agrees : (r : Request) (g : Registration) (seen : Seen) → NoEntry (entries_at desk rows) bytes r.body.holder → IsSeen desk day r g rows seen → Agrees es c r g seen
  agrees r g seen n s = record {
    unused = n.used;
    signer_is = s.signer ∙ signer_agrees r.body.authority;
    voucher_is = s.voucher ∙ voucher_agrees r g r.outer;
    held_is = held_entries r issued are ∙ (λ i. not (sym s.held.0 i == 0));
    live_is = s.held.1 ∙ live_entries r day issued are;
    count_is = s.count ∙ count_entries issued are;
  }

  module _ (r : Request) (read : request_of bytes ≡ Ok r) where
    same_voucher : (g : Registration) (o : Option Outer) → voucher_for es bare r o (Some g) ≡ voucher_for es c r o (Some g)
    same_voucher g (Some o) = refl
    same_voucher g None = refl

    lists_fresh : row_at table.Issued desk r.body.holder rows ≡ None → Fresh said c r rows
    lists_fresh none =
        let n = no_entry issued bytes r.body.holder (ap number_in read) are (sym (row_is table.Issued desk r.body.holder rows) ∙ none) in
        record {
          unknown = λ u. record { new = n.kept; first = (λ i. first_of (read i) es c) ∙ (λ i. find (λ k. is_broken es c r k (u i)) rules) ∙ (λ i. cond (n.used i) (Some rule.Used) (Some rule.Holder)) };
          suspended = λ g e out. record { new = n.kept; first = (λ i. first_of (read i) es c) ∙ (λ i. find (λ k. is_broken es c r k (e i)) rules) ∙ first_two _ g.suspended _ n.used out };
          looked = λ g e ok. looked_where_owed said c r g rows (record {
            read = read;
            registered_is = e;
            allowed = ok;
            inner_is = λ i. inner_said said (read i);
            outer_is = (λ i. outer_bit said es bare (read i)) ∙ (λ i. outer_said said r r.outer (voucher_for es bare r r.outer (e i))) ∙ ap (outer_said said r r.outer) (same_voucher g r.outer);
            unused = none;
            new = n.kept;
            number = n.number;
            agrees = λ seen s. agrees r g seen n s;
          });
        }

    lists_again : (row : Row) → row_at table.Issued desk r.body.holder rows ≡ Some row → Again c rows (kept_answer row.part bytes)
    lists_again row found = let f = found_entry issued row bytes r.body.holder (ap number_in read) are (sym (row_is table.Issued desk r.body.holder rows) ∙ found) in
        subst (λ (q : Part). Again c rows (kept_answer q bytes)) (sym f.part_is) (go f (bytes_eq f.p.request bytes) refl)
      where
        go : (f : FoundEntry issued row bytes r.body.holder) (b : Bool) → bytes_eq f.p.request bytes ≡ b → Again c rows (cond b (answer.Kept f.p.settled.certificate) (answer.Refused rule.Used))
        go f true e = f.same e
        go f false e = record { new = f.new e; first = (λ i. first_of (read i) es c) ∙ first_one _ _ (f.used e) }

  pub by_lists : ByLists said c rows
  by_lists = record {
    asked = λ r read. record { again = λ row found. lists_again r read row found; fresh = λ none. lists_fresh r read none };
    unread = λ e unread. record { new = unread_lacks issued bytes e unread are; first = λ i. first_of (unread i) es c };
  }

-- ---- what a law says of what a keeper tells

pub told_by_law : {A : Type 0} (L : A → Type 0) (P Q : A → A → Type 0) (a b : Option A) → IfSome a L → Told a b P → ((x y : A) → L x → P x y → Q x y) → Told a b Q
told_by_law L P Q a None l p f = tt
told_by_law L P Q None (Some y) l p f = absurd p
told_by_law L P Q (Some x) (Some y) l p f = f x y l p
