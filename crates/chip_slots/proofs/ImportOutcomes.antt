-- Every case of an import, from what its contract says.
use Rattle.std.proofs.Common.{◌≡◌, ◌≢◌, inl, inr, ℕ, ◌+◌, List, Option, Some, None, Result, Ok, Err, Bool, true, false, cond, refl, sym, ◌∙◌, ap, subst}
use Rattle.std.specs.Prelude.{is_some, not, ◌||◌}
use Rattle.cvc_grammar.specs.ReadingOrder.{read_cert}
use Rattle.cvc_grammar.specs.declared.certificate.Cert.{Cert}
use Rattle.cvc_grammar.specs.declared.refusal.CvcRefusal.{CvcRefusal}
use Rattle.signature_provider.specs.Provider.{Says}
use Rattle.chip_verify.specs.declared.answers.Checked.{Checked}
use Rattle.chip_verify.specs.declared.answers.Checked.TheVariants as checks
use Rattle.chip_verify.specs.declared.answers.Imported.{Imported}
use Rattle.chip_verify.specs.declared.answers.ImportRefusal.{ImportRefusal}
use Rattle.chip_verify.specs.declared.answers.Judged.{Judged}
use Rattle.chip_verify.specs.declared.answers.Judged.TheVariants as judges
use Rattle.chip_verify.specs.Trust.{Trust}
use Rattle.chip_verify.specs.Session.{SessionValue}
use Rattle.chip_verify.specs.Refusals.{sort_of, is_held, refusal_of, refused_or_ask, issuer_of, checked}
use Rattle.chip_verify.specs.Step.{Step, IsNext, Judges, verdict_on}
use Rattle.chip_slots.specs.declared.answers.ChipRefusal.{ChipRefusal}
use Rattle.chip_slots.specs.declared.answers.ChipRefusal.TheVariants as refusal
use Rattle.chip_slots.specs.Crash.{Standing}
use Rattle.chip_slots.specs.Acts.{moved, given}
use Rattle.chip_slots.specs.Chips.{ChipValue, read_as, LeavesEither, EndsAs, Moves, Follows, ImportsRead, ImportsWhere, Imports}
use Rattle.chip_slots.specs.Outcomes.{answer_for, due_answer, IsMoved, Outcome as Comes}

module _ (tells : Type 0) (past told : ℕ → Standing) (from to : ℕ) (says : Says) (o o' : ChipValue) (ready : o.needs_opening ≡ false) where
  abbrev Outcome : Result Cert CvcRefusal → Result Imported ChipRefusal → Type 0
  Outcome read result = Comes tells past told from to says o o' read result

  -- nothing follows
  stays : (next : Trust × SessionValue) → next ≡ (o.state, o.session) → o' ≡ o → IsMoved o next o'
  stays next is same = subst (λ (n : Trust × SessionValue). IsMoved o n o') (sym is) (subst (IsMoved o (o.state, o.session)) (sym same) (record { state = refl; session = refl; ready = ready; generation = inl (refl, refl) }))

  same_generation : o' ≡ o → o'.generation ≡ o.generation
  same_generation same = ap (λ (x : ChipValue). x.generation) same

  module _ (c : Cert) where
    or_true : (b : Bool) → (b || true) ≡ true
    or_true true = refl
    or_true false = refl

    stands : (is_held o.state c.body || is_some (refusal_of o.state o.session c.body) || not (verdict_on says o.state o.session c)) ≡ true → given o.state o.session (Ok c) (verdict_on says o.state o.session c) ≡ (o.state, o.session)
    stands is = λ i. cond (is i) (o.state, o.session) (moved o.state o.session c.body (issuer_of o.state o.session c.body))

    held_is : checked o.state o.session c.body ≡ checks.Held → is_held o.state c.body ≡ true
    held_is is = go (is_held o.state c.body) (refusal_of o.state o.session c.body) is
      where
        go : (held : Bool) (r : Option ImportRefusal) → cond held checks.Held (refused_or_ask r) ≡ checks.Held → held ≡ true
        go true r e = refl
        go false None e = absurd (cc (e))
        go false (Some k) e = absurd (cc (e))

    refused_is : (k : ImportRefusal) → checked o.state o.session c.body ≡ checks.Refused k → refusal_of o.state o.session c.body ≡ Some k
    refused_is k is = go (is_held o.state c.body) (refusal_of o.state o.session c.body) is
      where
        go : (held : Bool) (r : Option ImportRefusal) → cond held checks.Held (refused_or_ask r) ≡ checks.Refused k → r ≡ Some k
        go true r e = absurd (cc (e))
        go false None e = absurd (cc (e))
        go false (Some j) e = cc

    held_stays : checked o.state o.session c.body ≡ checks.Held → given o.state o.session (Ok c) (verdict_on says o.state o.session c) ≡ (o.state, o.session)
    held_stays is = stands (λ i. held_is is i || is_some (refusal_of o.state o.session c.body) || not (verdict_on says o.state o.session c))

    refused_stays : (k : ImportRefusal) → checked o.state o.session c.body ≡ checks.Refused k → given o.state o.session (Ok c) (verdict_on says o.state o.session c) ≡ (o.state, o.session)
    refused_stays k is = stands (ap (λ (r : Option ImportRefusal). is_held o.state c.body || is_some r || not (verdict_on says o.state o.session c)) (refused_is k is) ∙ ap (λ (b : Bool). b || not (verdict_on says o.state o.session c)) (or_true (is_held o.state c.body)))

    unsigned_stays : verdict_on says o.state o.session c ≡ false → given o.state o.session (Ok c) (verdict_on says o.state o.session c) ≡ (o.state, o.session)
    unsigned_stays is = stands (ap (λ (b : Bool). is_held o.state c.body || is_some (refusal_of o.state o.session c.body) || not b) is ∙ or_true (is_held o.state c.body || is_some (refusal_of o.state o.session c.body)))

    next_is : (t : Trust) (s : SessionValue) (st : Step o.state o.session c.body (verdict_on says o.state o.session c) t s) → given o.state o.session (Ok c) (verdict_on says o.state o.session c) ≡ (t, s)
    next_is t s st =
        (λ i. cond (st.not_held i || is_some (st.allowed i) || not (st.yes i)) (o.state, o.session) (moved o.state o.session c.body (st.named i)))
        ∙ (λ i. (sym st.trust i, sym st.session i))

    asks : (t : Trust) (s : SessionValue) → Step o.state o.session c.body (verdict_on says o.state o.session c) t s → checked o.state o.session c.body ≡ checks.Ask
    asks t s st = λ i. cond (st.not_held i) checks.Held (refused_or_ask (st.allowed i))

    due_next : (t : Trust) (s : SessionValue) (what : Imported) → IsNext says o.state o.session c t s what → due_answer o (Ok c) (verdict_on says o.state o.session c) ≡ Ok what
    due_next t s what j = (λ i. answer_for (asks t s j.step i) (j.step.yes i) (sort_of c.body.template.role)) ∙ ap (λ (w : Imported). Ok w) (sym j.sort)

    judged : (d : Judged) (result : Result Imported ChipRefusal) → Judges says o.state o.session c d → Follows tells past told from to o d result o' → Outcome (Ok c) result
    judged judges.Held result j x = subst (Outcome (Ok c)) (sym x.0) (record {
      due = sym (ap (λ (k : Checked). answer_for k (verdict_on says o.state o.session c) (sort_of c.body.template.role)) j);
      moved = stays _ (held_stays j) x.1;
      disk = inl (same_generation x.1);
    })
    judged (judges.Refused k) result (inl j) x = subst (Outcome (Ok c)) (sym x.0) (record {
      due = sym (ap (λ (k : Checked). answer_for k (verdict_on says o.state o.session c) (sort_of c.body.template.role)) j);
      moved = stays _ (refused_stays k j) x.1;
      disk = inl (same_generation x.1);
    })
    judged (judges.Refused k) result (inr j) x = subst (Outcome (Ok c)) (sym x.0) (record {
      due = ap (λ (n : ImportRefusal). Err (refusal.Refused n)) j.row ∙ sym (λ i. answer_for (j.asked i) (j.said i) (sort_of c.body.template.role));
      moved = stays _ (unsigned_stays j.said) x.1;
      disk = inl (same_generation x.1);
    })
    judged (judges.Next t s what) result j x = go result x
      where
        go : (r : Result Imported ChipRefusal) → Moves tells past told from to o t s what r o' → Outcome (Ok c) r
        go (Ok w) (w_is, inl x) = record {
          due = ap (λ (q : Imported). Ok q) w_is ∙ sym (due_next t s what j);
          moved = subst (λ (n : Trust × SessionValue). IsMoved o n o') (sym (next_is t s j.step)) (subst (IsMoved o (t, s)) (sym x.chip) (record { state = sym x.same; session = refl; ready = refl; generation = inl (x.same, refl) }));
          disk = inl (ap (λ (y : ChipValue). y.generation) x.chip);
        }
        go (Ok w) (w_is, inr x) = record {
          due = ap (λ (q : Imported). Ok q) w_is ∙ sym (due_next t s what j);
          moved = subst (λ (n : Trust × SessionValue). IsMoved o n o') (sym (next_is t s j.step)) (subst (IsMoved o (t, s)) (sym x.chip) (record { state = refl; session = refl; ready = refl; generation = inr (x.other, x.room, refl) }));
          disk = inr (subst (λ (y : ChipValue). LeavesEither tells past told from to (read_as o) (read_as y) × EndsAs tells past told from to (read_as o) (read_as y)) (sym x.chip) (x.leaves, x.keeps));
        }
        go (Err refusal.Worn) x = record {
          what = what;
          due = due_next t s what j;
          other = subst (λ (n : Trust × SessionValue). n.0 ≢ o.state) (sym (next_is t s j.step)) x.other;
          last = x.last;
          chip = x.chip;
        }
        go (Err refusal.DiskFault) x = record {
          what = what;
          due = due_next t s what j;
          other = subst (λ (n : Trust × SessionValue). n.0 ≢ o.state) (sym (next_is t s j.step)) x.other;
          room = x.room;
          chip = x.chip;
          leaves = subst (λ (n : Trust × SessionValue). LeavesEither tells past told from to (read_as o) (Some (n.0, o.generation + 1))) (sym (next_is t s j.step)) x.leaves;
        }
        go (Err refusal.NoChip) x = absurd x
        go (Err refusal.ProviderFault) x = absurd x
        go (Err refusal.NeedsOpen) x = absurd x
        go (Err (refusal.Syntax e)) x = absurd x
        go (Err (refusal.Refused k)) x = absurd x

  outcome_read : (r : Result Cert CvcRefusal) (result : Result Imported ChipRefusal) → ImportsRead tells past told from to says o r result o' → Outcome r result
  outcome_read (Ok c) result (inl j) = judged c j.judged result j.judges j.follows
  outcome_read (Ok c) result (inr u) = subst (Outcome (Ok c)) (sym u.answer) (record { asked = u.asked; chip = u.chip })
  outcome_read (Err e) result x = subst (Outcome (Err e)) (sym x.0) (record { due = refl; moved = stays _ refl x.1; disk = inl (same_generation x.1) })

  pub outcome_of : (bytes : List ℕ) (result : Result Imported ChipRefusal) → Imports tells past told from to says o bytes result o' → Outcome (read_cert bytes) result
  outcome_of bytes result x = outcome_read (read_cert bytes) result (subst (λ (b : Bool). ImportsWhere tells past told from to b says o bytes result o') ready x)
