-- What was seen decides: the record before the looks follows from the agreement of the lists.
use Rattle.std.proofs.Common.{◌≡◌, ℕ, ◌<◌, length, Option, Some, None, Bool, true, false, cond, refl, sym, ◌∙◌, ap, subst, arith}
use Rattle.std.proofs.lemmas.Bool.Decides.{nat_tests}
use Rattle.std.specs.Prelude.{nat_le, option_and_then}
use Rattle.keeper.specs.declared.rows.Table.TheVariants as table
use Rattle.keeper.specs.Rows.{rows_of, most_rows}
use Rattle.issue_core.specs.declared.rule.Rule.{Rule}
use Rattle.issue_core.specs.declared.rule.Rule.TheVariants as rule
use Rattle.issue_core.specs.declared.issuing.seen.Seen.{Seen}
use Rattle.ledger.specs.Ledger.{faces}
use Rattle.issue_core.specs.declared.issuing.signer_row.Signer.{Signer}
use Rattle.issue_core.specs.Issuing.Rules.{signer, first_rule}
use Rattle.issue_core.specs.Issuing.Due.{due_of, due_for, due_body}
use Rattle.issue_core.specs.Issuing.Desk.{issuing}
use Rattle.issue_core.specs.Issuing.Rows.{entries_at}
use Rattle.issue_core.specs.Issuing.Looks.{IsSeen}
use Rattle.issue_core.specs.Issuing.SeenRules.{first_seen, in_order, IsGranted, outer_said, verdict_rule, or_rule}
use Rattle.issue_core.specs.Issuing.Steps.{Ready, LookedWhereOwed}
use Rattle.issue_core.proofs.IssuingDesk.RulesSeen.{rules_by_seen}

past : (b : Bool) (k : Rule) (x : Option Rule) → cond b (Some k) x ≡ None → x ≡ None
past true k x h = absurd (cc)
past false k x h = h

last : (b : Bool) (k : Rule) → cond b (Some k) None ≡ None → b ≡ false
last true k h = absurd (cc)
last false k h = refl

-- no rule is broken, so that the last one isn't
not_full : (a e d m u x l s f : Bool) → in_order a e d m u x l s f ≡ None → f ≡ false
not_full a e d m u x l s f h =
    last f rule.Full (past s rule.Short _ (past l rule.LiveLimit _ (past x rule.OuterExpired _ (past u rule.OuterUnknown _ (past m rule.OuterMissing _ (past d rule.Domain _ (past e rule.AuthorityExpired _ (past a rule.Authority _ h))))))))

pub looked_where_owed : LookedWhereOwed
looked_where_owed said c r g rows owed = record {
  refused = λ seen k is e. record { new = owed.new; first = by_seen seen is ∙ (λ i. or_rule (e i) (verdict_rule said r seen.voucher)) };
  passed = λ seen s days is granted. record {
    refused = λ k v. record { new = owed.new; first = by_seen seen is ∙ (λ i. or_rule (granted.unbroken i) (v i)) };
    ready = λ v. ready seen s days is granted v;
  };
}
  where
    by_seen : (seen : Seen) → IsSeen c.desk c.day r g rows seen → first_rule (faces issuing (entries_at c.desk rows)) c ≡ or_rule (first_seen c.day r g seen) (verdict_rule said r seen.voucher)
    by_seen seen is =
        let a = owed.agrees seen is in
        rules_by_seen said (faces issuing (entries_at c.desk rows)) c r g seen owed.read owed.registered_is owed.allowed owed.inner_is (owed.outer_is ∙ ap (outer_said said r r.outer) (sym a.voucher_is)) a

    ready : (seen : Seen) (s : Signer) (days : ℕ × ℕ) → IsSeen c.desk c.day r g rows seen → IsGranted c.day r g seen s days → verdict_rule said r seen.voucher ≡ None → Ready c r g s days rows
    ready seen s days is granted v =
        let a = owed.agrees seen is in
        let count : seen.count ≡ length (rows_of table.Issued c.desk rows) = is.count in
        let full : nat_le most_rows seen.count ≡ false = not_full _ _ _ _ _ _ _ _ _ granted.unbroken in
        let room : seen.count < most_rows = grind (arith, nat_tests) in
        let signed : signer c r ≡ Some s = sym a.signer_is ∙ granted.signer_is in
        record {
          read = owed.read;
          unused = owed.unused;
          room = subst (λ (x : ℕ). x < most_rows) count room;
          new = owed.new;
          number = owed.number;
          allowed = by_seen seen is ∙ (λ i. or_rule (granted.unbroken i) (v i));
          signer_is = signed;
          due_is = (λ i. due_of (owed.read i) c) ∙ (λ i. option_and_then (λ x. option_and_then (λ y. due_for r c.day x y) (signed i)) (owed.registered_is i)) ∙ (λ i. option_and_then (λ days. Some (due_body r g s days)) (granted.days_are i));
        }
