-- The rules by the lists, one test after another.
use Rattle.std.proofs.Common.{◌≡◌, ◌==◌, ℕ, List, Option, Some, None, Bool, true, false, cond, refl, sym, ◌∙◌, ap}
use Rattle.std.specs.Prelude.{◌||◌, not, is_none, find, nat_lt, nat_le}
use Rattle.std.specs.List.{list_any}
use Rattle.signature_provider.specs.Provider.{Says}
use Rattle.cvc_grammar.specs.declared.request.Request.{Request}
use Rattle.cvc_grammar.specs.declared.request.Outer.{Outer}
use Rattle.policy_limits.specs.Validity.{validity, minimum_days}
use Rattle.policy_limits.specs.declared.registration.Registration.{Registration}
use Rattle.keeper.specs.Rows.{most_rows}
use Rattle.issue_core.specs.declared.rule.Rule.{Rule}
use Rattle.issue_core.specs.declared.rule.Rule.TheVariants as rule
use Rattle.issue_core.specs.declared.issuing.signer_row.Signer.{Signer}
use Rattle.issue_core.specs.declared.issuing.voucher_row.Voucher.{Voucher}
use Rattle.issue_core.specs.Issuing.Rules.{Case, Issue, signer, voucher, differs_from, with_signer, with_voucher, outer_missing, outer_unknown, outer_known, has_same_holder, is_broken, rules, first_of, has_home}
use Rattle.issue_core.specs.Issuing.SeenRules.{in_order, is_expired_at, has_other_domain, is_outer_missing, is_outer_unknown, is_outer_expired, is_short, voucher_for, outer_said, outer_rule, verdict_rule, or_rule, RulesBySeen}

cond_not : {A : Type 0} (b : Bool) (x y : A) → cond (not b) x y ≡ cond b y x
cond_not true x y = refl
cond_not false x y = refl

-- one rule in front of others
one_more : (b : Bool) (k : Rule) (x y t : Option Rule) → x ≡ or_rule y t → cond b (Some k) x ≡ or_rule (cond b (Some k) y) t
one_more true k x y t h = refl
one_more false k x y t h = h

-- the rules 4 to 12, then the rest
all_in_order : (a e d m u x l s f : Bool) (t : Option Rule) →
    cond a (Some rule.Authority) (cond e (Some rule.AuthorityExpired) (cond d (Some rule.Domain) (cond m (Some rule.OuterMissing) (cond u (Some rule.OuterUnknown) (cond x (Some rule.OuterExpired) (cond l (Some rule.LiveLimit) (cond s (Some rule.Short) (cond f (Some rule.Full) t))))))))
    ≡ or_rule (in_order a e d m u x l s f) t
all_in_order a e d m u x l s f t =
    one_more a rule.Authority _ _ t (one_more e rule.AuthorityExpired _ _ t (one_more d rule.Domain _ _ t (one_more m rule.OuterMissing _ _ t (one_more u rule.OuterUnknown _ _ t (one_more x rule.OuterExpired _ _ t (one_more l rule.LiveLimit _ _ t (one_more s rule.Short _ _ t (one_more f rule.Full t None t refl))))))))

module _ (es : List Issue) (c : Case) (r : Request) (g : Registration) where
  expired_is : (o : Option Signer) → with_signer (λ s. nat_lt s.settled.until c.day) o ≡ is_expired_at c.day o
  expired_is (Some s) = refl
  expired_is None = refl

  domain_is : (o : Option Signer) → with_signer (differs_from r) o ≡ has_other_domain r o
  domain_is (Some s) = refl
  domain_is None = refl

  short_is : (o : Option Signer) → with_signer (λ s. is_none (validity c.day g.days s.settled.until (minimum_days g.role))) o ≡ is_short c.day g o
  short_is (Some s) = refl
  short_is None = refl

  missing_is : (o : Option Outer) (held : ℕ) → list_any (has_same_holder r) es ≡ not (held == 0) → outer_missing es c r o g ≡ is_outer_missing g.first o held
  missing_is (Some o) held h = refl
  missing_is None held h = λ i. has_home g.first || h i

  unknown_is : (o : Option Outer) → outer_unknown es c r o g ≡ is_outer_unknown o (voucher_for es c r o (Some g))
  unknown_is (Some o) = refl
  unknown_is None = refl

  voucher_expired : (v : Option Voucher) → with_voucher (λ w. nat_lt w.until c.day) v ≡ is_outer_expired c.day v
  voucher_expired (Some v) = refl
  voucher_expired None = refl

  outer_expired_is : (o : Option Outer) → outer_known es c r (λ w. nat_lt w.until c.day) o g ≡ is_outer_expired c.day (voucher_for es c r o (Some g))
  outer_expired_is (Some o) = voucher_expired (voucher es c r g o.reference)
  outer_expired_is None = refl

  outer_tail_at : (said : Says) (o : Outer) (bit : Bool) (v : Option Voucher) → bit ≡ outer_said said r (Some o) v → cond (with_voucher (λ w. not bit) v) (Some rule.Outer) None ≡ outer_rule said r (Some o) v
  outer_tail_at said o bit (Some v) h = cond_not bit (Some rule.Outer) None ∙ (λ i. cond (h i) None (Some rule.Outer))
  outer_tail_at said o bit None h = refl

  outer_tail : (said : Says) (o : Option Outer) (bit : Bool) → bit ≡ outer_said said r o (voucher_for es c r o (Some g)) → cond (outer_known es c r (λ w. not bit) o g) (Some rule.Outer) None ≡ outer_rule said r o (voucher_for es c r o (Some g))
  outer_tail said (Some o) bit h = outer_tail_at said o bit (voucher es c r g o.reference) h
  outer_tail said None bit h = refl

pub rules_by_seen : RulesBySeen
rules_by_seen said es c r g seen read reg ok inner outer a =
    (λ i. first_of (read i) es c)
    ∙ (λ i. find (λ k. is_broken es c r k (reg i)) rules)
    ∙ (λ i. cond (a.unused i) (Some rule.Used) (cond (ok i) (Some rule.Holder)
    (cond (is_none (sym a.signer_is i)) (Some rule.Authority)
    (cond ((expired_is es c r g (signer c r) ∙ ap (is_expired_at c.day) (sym a.signer_is)) i) (Some rule.AuthorityExpired)
    (cond ((domain_is es c r g (signer c r) ∙ ap (has_other_domain r) (sym a.signer_is)) i) (Some rule.Domain)
    (cond (missing_is es c r g r.outer seen.held.all a.held_is i) (Some rule.OuterMissing)
    (cond ((unknown_is es c r g r.outer ∙ ap (is_outer_unknown r.outer) (sym a.voucher_is)) i) (Some rule.OuterUnknown)
    (cond ((outer_expired_is es c r g r.outer ∙ ap (is_outer_expired c.day) (sym a.voucher_is)) i) (Some rule.OuterExpired)
    (cond (nat_le g.live_limit (sym a.live_is i)) (Some rule.LiveLimit)
    (cond ((short_is es c r g (signer c r) ∙ ap (is_short c.day g) (sym a.signer_is)) i) (Some rule.Short)
    (cond (nat_le most_rows (sym a.count_is i)) (Some rule.Full) (tail i))))))))))))
    ∙ all_in_order (is_none seen.signer) (is_expired_at c.day seen.signer) (has_other_domain r seen.signer) (is_outer_missing g.first r.outer seen.held.all) (is_outer_unknown r.outer seen.voucher) (is_outer_expired c.day seen.voucher) (nat_le g.live_limit seen.held.live) (is_short c.day g seen.signer) (nat_le most_rows seen.count) (verdict_rule said r seen.voucher)
  where
    last : cond (outer_known es c r (λ w. not c.outer) r.outer g) (Some rule.Outer) None ≡ outer_rule said r r.outer seen.voucher
    last = outer_tail es c r g said r.outer c.outer (outer ∙ ap (outer_said said r r.outer) a.voucher_is) ∙ ap (outer_rule said r r.outer) (sym a.voucher_is)

    tail : cond (not c.inner) (Some rule.Inner) (cond (outer_known es c r (λ w. not c.outer) r.outer g) (Some rule.Outer) None) ≡ verdict_rule said r seen.voucher
    tail = (λ i. cond (not c.inner) (Some rule.Inner) (last i)) ∙ cond_not c.inner (Some rule.Inner) (outer_rule said r r.outer seen.voucher) ∙ (λ i. cond (inner i) (outer_rule said r r.outer seen.voucher) (Some rule.Inner))
