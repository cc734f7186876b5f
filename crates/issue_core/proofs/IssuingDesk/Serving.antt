-- The ways in which the steps of a call end.
use Rattle.std.proofs.Common.{◌≡◌, ℕ, List, Option, Some, None, true, false, refl, sym, subst, inl}
use Rattle.std.specs.Prelude.{Result, Ok, Err, IfSome}
use Rattle.eac_base.specs.Telling.{Told}
use Rattle.holder_reference.specs.Reference.{holder_part}
use Rattle.signature_provider.specs.Provider.{public_key}
use Rattle.cvc_grammar.specs.declared.request.Request.{Request}
use Rattle.policy_limits.specs.Setup.{registration}
use Rattle.policy_limits.specs.declared.registration.Registration.{Registration}
use Rattle.keeper.specs.declared.rows.Row.{Row}
use Rattle.keeper.specs.declared.rows.Table.TheVariants as table
use Rattle.keeper.specs.Rows.{row_at}
use Rattle.keeper.specs.Keeping.{IsAsked}
use Rattle.issue_core.specs.declared.rule.Rule.{Rule}
use Rattle.issue_core.specs.declared.rule.Rule.TheVariants as rule
use Rattle.issue_core.specs.declared.fault.IssueFault.{IssueFault}
use Rattle.issue_core.specs.declared.fault.IssueFault.TheVariants as fault
use Rattle.issue_core.specs.declared.issuing.seen.Seen.{Seen}
use Rattle.issue_core.specs.declared.issuing.signer_row.Signer.{Signer}
use Rattle.issue_core.specs.declared.issuing.serving.Answer.{Answer}
use Rattle.issue_core.specs.declared.issuing.serving.Answer.TheVariants as answer
use Rattle.issue_core.specs.declared.issuing.serving.Call.{Call}
use Rattle.issue_core.specs.Issuing.Causes.{KeeperCaused, MakeCaused, VerdictCaused, StaysTrue}
use Rattle.issue_core.specs.Issuing.Calls.{kept_answer}
use Rattle.issue_core.specs.Issuing.Looks.{IsSeen}
use Rattle.issue_core.specs.Issuing.SeenRules.{first_seen, verdict_rule, IsGranted}
use Rattle.issue_core.specs.Issuing.AnswerCauses.{IsSeenAsked}
use Rattle.issue_core.specs.Issuing.Signed.{Unmade}
use Rattle.issue_core.specs.Issuing.ProviderCalls.{Standing, MissesKey, due_pair}
use Rattle.issue_core.specs.Issuing.Serving.{span, ServesReady, ServesGranted, ServesRegistered, ServesNew, ServesRead}
use Rattle.issue_core.proofs.IssuingDesk.Caused.{cause_still, cause_seen, cause_asked, ok_no_fault}
use Rattle.issue_core.proofs.IssuingDesk.Answering.{may_make, answered_verdict, has_seen, answered_seen, answered_unknown, answered_suspended, admitted_by, answered_again}
use Rattle.issue_core.proofs.IssuingDesk.Owing.{owes_wanting, owes_unmade, owes_no_verdict, owes_asked, owes_unseen, owes_unasked, refusal_ends, seen_ends, kept_ends, clear_on, asking_agreed, asking_all, all_from}
use Rattle.issue_core.proofs.IssuingDesk.ServedTold.{told_unmade, passed_unasked, passed_refused, passed_ready, looked_fault, looked_refused, looked_passed, fresh_unknown, fresh_suspended, fresh_looked, read_fault, read_again, read_fresh}

abbrev Rows : Type 0
Rows = Option (List Row)

-- ---- the making

module _ (call : Call) (r : Request) (g : Registration) (s : Signer) (days : ℕ × ℕ) (o : Rows) (k : ℕ) where
  -- memory is wanting before it
  pub wanting : (st : Standing) (result : Result Answer IssueFault) → result ≡ Err fault.NoMemory → ServesReady call r g s days (span (o, o) (k, k) st st) result
  wanting st result is = subst (λ (x : Result Answer IssueFault). ServesReady call r g s days (span (o, o) (k, k) st st) x) (sym is) (record {
    told = told_unmade st.says st.holds (st.signed, st.signed) call r g s days o (k, k) (st.faults, st.faults) fault.NoMemory (inl refl) tt;
    any = λ c its said may. owes_wanting said c r g s days may k st;
  })

  -- it failed
  pub unmade : {A : Type 0} (was now : Standing) (f : IssueFault) (result : Result Answer IssueFault) → result ≡ Err f → MakeCaused {T = A} was.faults now.faults (was.holds (public_key s.key)) s.reference (Err f) →
      StaysTrue was.says now.says was.holds now.holds was.signed now.signed → Unmade f (was.signed, now.signed) (due_pair r g s days) → ServesReady call r g s days (span (o, o) (k, k) was now) result
  unmade {A} was now f result is caused stays signs = subst (λ (x : Result Answer IssueFault). ServesReady call r g s days (span (o, o) (k, k) was now) x) (sym is) (record {
    told = told_unmade now.says was.holds (was.signed, now.signed) call r g s days o (k, k) (was.faults, now.faults) f signs caused.failed;
    any = λ c its said may. owes_unmade said c r g s days may {A = A} k was now f (Err f) refl caused.failed caused stays signs;
  })

-- ---- the verdicts

module _ (call : Call) (r : Request) (g : Registration) (seen : Seen) (s : Signer) (days : ℕ × ℕ) (was now : Standing) (says : now.says ≡ was.says) (holds : now.holds ≡ was.holds) (signed : now.signed ≡ was.signed) where
  -- one failed
  pub unverdicted : {A : Type 0} (o : Rows) (k : ℕ) (f : IssueFault) (result : Result Answer IssueFault) → result ≡ Err f → VerdictCaused {T = A} was.faults now.faults (Err f) → ServesGranted call r g seen s days (span (o, o) (k, k) was now) result
  unverdicted {A} o k f result is caused = subst (λ (x : Result Answer IssueFault). ServesGranted call r g seen s days (span (o, o) (k, k) was now) x) (sym is) (record {
    told = passed_unasked was.says now.says was.holds (was.signed, now.signed) call r g seen s days o (k, k) (was.faults, now.faults) f signed caused.failed;
    any = λ c its saw granted. owes_no_verdict was.says c r g seen saw (clear_on call c r g seen its granted.unbroken) k was now (record { says = says; holds = holds; signed = signed }) {A = A} f (Err f) refl caused.failed caused;
  })

  -- one is no
  pub said_no : (o : Rows) (k : ℕ) (broken : Rule) → VerdictCaused was.faults now.faults (Ok (Some broken)) → Some broken ≡ verdict_rule was.says r seen.voucher → ServesGranted call r g seen s days (span (o, o) (k, k) was now) (Ok (answer.Refused broken))
  said_no o k broken caused is = record {
    told = passed_refused was.says now.says was.holds (was.signed, now.signed) call r g seen s days o (k, k) (was.faults, now.faults) broken signed is;
    any = λ c its saw granted. owes_asked was.says c r g seen saw (clear_on call c r g seen its granted.unbroken) k was now (record { says = says; holds = holds; signed = signed }) (Ok (answer.Refused broken))
        (answered_verdict was.says now.says was.holds call r g seen broken is c its saw granted.unbroken)
        (cause_asked (MissesKey was.says was.holds c) k (was.faults, now.faults) (Some broken) (Ok (Some broken)) (answer.Refused broken) refl caused)
        (refusal_ends was.says r seen broken is);
  }

  -- they are yes
  pub said_yes : (o o' : Rows) (k : ℕ × ℕ) (after : Standing) (result : Result Answer IssueFault) → VerdictCaused {T = Option Rule} was.faults now.faults (Ok None) → None ≡ verdict_rule was.says r seen.voucher → ServesReady call r g s days (span (o, o') k now after) result → ServesGranted call r g seen s days (span (o, o') k was after) result
  said_yes o o' k after result caused is rest = record {
    told = passed_ready was.says after.says was.holds (was.signed, after.signed) call r g seen s days now.holds now.signed o o' _ k was.faults now.faults after.faults holds signed caused.later is rest.told;
    any = λ c its saw granted. asking_agreed was.says c k was now after result says holds signed (caused.quiet (ok_no_fault None fault.ProviderFault (Ok None) refl)) (rest.any c its was.says (may_make was.says call r g seen s days c its saw granted is));
  }

-- ---- the looks

module _ (call : Call) (r : Request) (g : Registration) where
  -- one failed
  pub unseen : {A : Type 0} (o o' : Rows) (k : ℕ × ℕ) (st : Standing) (f : IssueFault) (result : Result Answer IssueFault) → result ≡ Err f → KeeperCaused {T = A} k.0 k.1 (Err f) → Told o o' (λ b a. (a ≡ b) × Unit {0}) → ServesRegistered call r g (span (o, o') k st st) result
  unseen {A} o o' k st f result is caused told = subst (λ (x : Result Answer IssueFault). ServesRegistered call r g (span (o, o') k st st) x) (sym is) (record {
    told = looked_fault st.says st.says st.holds (st.signed, st.signed) call r g o o' f k (st.faults, st.faults) refl caused.failed told;
    any = λ c its admitted. owes_unseen {A = A} st.says c k st f (Err f) refl caused.failed caused;
  })

  module _ (seen : Seen) (asked : IsSeenAsked call.desk call.day r g seen) where
    pub seen_no : (o o' : Rows) (k : ℕ × ℕ) (st : Standing) (broken : Rule) → KeeperCaused k.0 k.1 (Ok seen) → Told o o' (λ b a. (a ≡ b) × IsSeen call.desk call.day r g b seen) → first_seen call.day r g seen ≡ Some broken → ServesRegistered call r g (span (o, o') k st st) (Ok (answer.Refused broken))
    seen_no o o' k st broken caused told first = record {
      told = looked_refused st.says st.says st.holds (st.signed, st.signed) call r g o o' seen broken k (st.faults, st.faults) refl first told;
      any = λ c its admitted. owes_unasked st.says c k st (Ok (answer.Refused broken))
          (answered_seen st.says st.says st.holds call r g seen broken asked first c its admitted)
          (cause_seen (MissesKey st.says st.holds c) k st.faults seen (Ok seen) (answer.Refused broken) refl caused)
          (seen_ends call.day r g seen broken first);
    }

    pub seen_yes : (o o' o'' : Rows) (k0 k1 k2 : ℕ) (was now : Standing) (s : Signer) (days : ℕ × ℕ) (result : Result Answer IssueFault) → KeeperCaused k0 k1 (Ok seen) → Told o o' (λ b a. (a ≡ b) × IsSeen call.desk call.day r g b seen) →
        IsGranted call.day r g seen s days → ServesGranted call r g seen s days (span (o', o'') (k1, k2) was now) result → ServesRegistered call r g (span (o, o'') (k0, k2) was now) result
    seen_yes o o' o'' k0 k1 k2 was now s days result caused told granted rest = record {
      told = looked_passed was.says now.says was.holds (was.signed, now.signed) call r g o o' o'' seen s days _ k0 k1 k2 (was.faults, now.faults) caused.later granted told rest.told;
      any = λ c its admitted. asking_all was.says c k0 k1 k2 was now result (caused.quiet (ok_no_fault seen fault.KeeperFault (Ok seen) refl))
          (rest.any c its (has_seen was.says now.says was.holds call r g c seen its admitted asked) granted);
    }

-- ---- the registration

module _ (call : Call) (r : Request) (o : Rows) (k : ℕ) (st : Standing) (holder : List ℕ) (named : holder ≡ holder_part r.body.holder) where
  pub unknown : (found : Option Registration) → found ≡ registration call.setup.now call.desk holder → found ≡ None → ServesNew call r (span (o, o) (k, k) st st) (Ok (answer.Refused rule.Holder))
  unknown found is none = record {
    told = fresh_unknown st.says st.says st.holds (st.signed, st.signed) call r o holder found (k, k) (st.faults, st.faults) refl named is none;
    any = λ c its read. owes_unasked st.says c (k, k) st (Ok (answer.Refused rule.Holder))
        (answered_unknown st.says st.says st.holds call r holder found named is none c its read)
        (cause_still (MissesKey st.says st.holds c) k st.faults (Ok (answer.Refused rule.Holder)) tt) tt;
  }

  pub suspended : (g : Registration) → Some g ≡ registration call.setup.now call.desk holder → g.suspended ≡ true → ServesNew call r (span (o, o) (k, k) st st) (Ok (answer.Refused rule.Holder))
  suspended g is out = record {
    told = fresh_suspended st.says st.says st.holds (st.signed, st.signed) call r o g holder (k, k) (st.faults, st.faults) refl named is out;
    any = λ c its read. owes_unasked st.says c (k, k) st (Ok (answer.Refused rule.Holder))
        (answered_suspended st.says st.says st.holds call r g holder named is out c its read)
        (cause_still (MissesKey st.says st.holds c) k st.faults (Ok (answer.Refused rule.Holder)) tt) tt;
  }

pub registered_goes : (call : Call) (r : Request) (o o' : Rows) (k : ℕ × ℕ) (was now : Standing) (holder : List ℕ) (g : Registration) (result : Result Answer IssueFault) → holder ≡ holder_part r.body.holder → Some g ≡ registration call.setup.now call.desk holder → g.suspended ≡ false → ServesRegistered call r g (span (o, o') k was now) result → ServesNew call r (span (o, o') k was now) result
registered_goes call r o o' k was now holder g result named is ok rest = record {
  told = fresh_looked was.says now.says was.holds (was.signed, now.signed) call r o o' g holder _ k (was.faults, now.faults) named is ok rest.told;
  any = λ c its read. rest.any c its (admitted_by was.says now.says was.holds call r g holder named is ok c its read);
}

-- ---- the row of the number

module _ (call : Call) (r : Request) where
  pub unlooked : {A : Type 0} (o o' : Rows) (k : ℕ × ℕ) (st : Standing) (f : IssueFault) (result : Result Answer IssueFault) → result ≡ Err f → KeeperCaused {T = A} k.0 k.1 (Err f) → Told o o' (λ b a. (a ≡ b) × Unit {0}) → ServesRead call r (span (o, o') k st st) result
  unlooked {A} o o' k st f result is caused told = subst (λ (x : Result Answer IssueFault). ServesRead call r (span (o, o') k st st) x) (sym is) (record {
    told = read_fault st.says st.says st.holds (st.signed, st.signed) call r o o' f k (st.faults, st.faults) refl caused.failed told;
    any = λ c its read. owes_unseen {A = A} st.says c k st f (Err f) refl caused.failed caused;
  })

  pub kept_again : (o o' : Rows) (k : ℕ × ℕ) (st : Standing) (found : Option Row) (row : Row) (a : Answer) → found ≡ Some row → a ≡ kept_answer row.part call.bytes.now → KeeperCaused k.0 k.1 (Ok found) → IfSome found (IsAsked table.Issued call.desk r.body.holder) →
      Told o o' (λ b s. (s ≡ b) × (found ≡ row_at table.Issued call.desk r.body.holder b)) → ServesRead call r (span (o, o') k st st) (Ok a)
  kept_again o o' k st found row a some is caused asked told = record {
    told = read_again st.says st.says st.holds (st.signed, st.signed) call r o o' found row a k (st.faults, st.faults) refl some is told;
    any = λ c its read. owes_unasked st.says c k st (Ok a)
        (answered_again st.says st.says st.holds call r found row a some is asked c its read)
        (cause_seen (MissesKey st.says st.holds c) k st.faults found (Ok found) a refl caused)
        (kept_ends row.part call.bytes.now a is);
  }

  pub new_goes : (o o' o'' : Rows) (k0 k1 k2 : ℕ) (was now : Standing) (found : Option Row) (result : Result Answer IssueFault) → found ≡ None → KeeperCaused k0 k1 (Ok found) → Told o o' (λ b s. (s ≡ b) × (found ≡ row_at table.Issued call.desk r.body.holder b)) →
      ServesNew call r (span (o', o'') (k1, k2) was now) result → ServesRead call r (span (o, o'') (k0, k2) was now) result
  new_goes o o' o'' k0 k1 k2 was now found result none caused told rest = record {
    told = read_fresh was.says now.says was.holds (was.signed, now.signed) call r o o' o'' found _ k0 k1 k2 (was.faults, now.faults) caused.later none told rest.told;
    any = λ c its read. all_from was.says c k0 k1 k2 was now result (caused.quiet (ok_no_fault found fault.KeeperFault (Ok found) refl)) (rest.any c its read);
  }
