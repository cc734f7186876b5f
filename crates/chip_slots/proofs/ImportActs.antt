-- What an import answers is what the act of these bytes does.
use Rattle.std.proofs.Common.{◌≡◌, inl, inr, ℕ, List, Option, Some, None, Result, Ok, Err, Bool, true, false, cond, refl, sym, ◌∙◌, ap, subst}
use Rattle.std.specs.Prelude.{is_some, not, ◌||◌}
use Rattle.cvc_grammar.specs.ReadingOrder.{read_cert}
use Rattle.cvc_grammar.specs.declared.certificate.Cert.{Cert}
use Rattle.cvc_grammar.specs.declared.refusal.CvcRefusal.{CvcRefusal}
use Rattle.signature_provider.specs.Provider.{Says}
use Rattle.chip_verify.specs.declared.answers.ImportRefusal.{ImportRefusal}
use Rattle.chip_verify.specs.declared.answers.Imported.{Imported}
use Rattle.chip_verify.specs.declared.answers.Checked.TheVariants as checks
use Rattle.chip_verify.specs.declared.answers.Judged.{Judged}
use Rattle.chip_verify.specs.declared.answers.Judged.TheVariants as judges
use Rattle.chip_verify.specs.Trust.{Trust}
use Rattle.chip_verify.specs.Session.{SessionValue}
use Rattle.chip_verify.specs.Refusals.{is_held, refusal_of, issuer_of, refused_or_ask, checked}
use Rattle.chip_verify.specs.Step.{Judges, verdict_on}
use Rattle.chip_slots.specs.declared.answers.ChipRefusal.{ChipRefusal}
use Rattle.chip_slots.specs.declared.answers.ChipRefusal.TheVariants as refusal
use Rattle.chip_slots.specs.Crash.{Standing}
use Rattle.chip_slots.specs.Acts.{Given, moved, given, does}
use Rattle.chip_slots.specs.Chips.{ChipValue, Follows, ImportsRead, ImportsWhere, Imports}
use Rattle.chip_slots.specs.ActsOf.{verdict_read, verdict_of, IsActOf}

-- ---- what is judged

or_true : (b : Bool) → (b || true) ≡ true
or_true true = refl
or_true false = refl

abbrev next_of : Judged → Trust → SessionValue → Trust × SessionValue
next_of judges.Held t s = (t, s)
next_of (judges.Refused k) t s = (t, s)
next_of (judges.Next t' s' what) t s = (t', s')

module _ (says : Says) (t : Trust) (s : SessionValue) (c : Cert) where
  stands : (is_held t c.body || is_some (refusal_of t s c.body) || not (verdict_on says t s c)) ≡ true → given t s (Ok c) (verdict_on says t s c) ≡ (t, s)
  stands is = λ i. cond (is i) (t, s) (moved t s c.body (issuer_of t s c.body))

  held_stands : is_held t c.body ≡ true → given t s (Ok c) (verdict_on says t s c) ≡ (t, s)
  held_stands is = stands (λ i. is i || is_some (refusal_of t s c.body) || not (verdict_on says t s c))

  refused_stands : (k : ImportRefusal) → refusal_of t s c.body ≡ Some k → given t s (Ok c) (verdict_on says t s c) ≡ (t, s)
  refused_stands k is = stands (ap (λ (o : Option ImportRefusal). is_held t c.body || is_some o || not (verdict_on says t s c)) is ∙ ap (λ (b : Bool). b || not (verdict_on says t s c)) (or_true (is_held t c.body)))

  unsigned_stands : verdict_on says t s c ≡ false → given t s (Ok c) (verdict_on says t s c) ≡ (t, s)
  unsigned_stands is = stands (ap (λ (b : Bool). is_held t c.body || is_some (refusal_of t s c.body) || not b) is ∙ or_true (is_held t c.body || is_some (refusal_of t s c.body)))

  checked_held : checked t s c.body ≡ checks.Held → is_held t c.body ≡ true
  checked_held is = go (is_held t c.body) (refusal_of t s c.body) is
    where
      go : (held : Bool) (o : Option ImportRefusal) → cond held checks.Held (refused_or_ask o) ≡ checks.Held → held ≡ true
      go true o e = refl
      go false None e = absurd (cc (e))
      go false (Some k) e = absurd (cc (e))

  checked_refused : (k : ImportRefusal) → checked t s c.body ≡ checks.Refused k → refusal_of t s c.body ≡ Some k
  checked_refused k is = go (is_held t c.body) (refusal_of t s c.body) is
    where
      go : (held : Bool) (o : Option ImportRefusal) → cond held checks.Held (refused_or_ask o) ≡ checks.Refused k → o ≡ Some k
      go true o e = absurd (cc (e))
      go false None e = absurd (cc (e))
      go false (Some j) e = cc

  judged_does : (judged : Judged) → Judges says t s c judged → given t s (Ok c) (verdict_on says t s c) ≡ next_of judged t s
  judged_does judges.Held j = held_stands (checked_held j)
  judged_does (judges.Refused k) (inl j) = refused_stands k (checked_refused k j)
  judged_does (judges.Refused k) (inr j) = unsigned_stands j.said
  judged_does (judges.Next t' s' what) j =
      let st = j.step in
      (λ i. cond (st.not_held i || is_some (st.allowed i) || not (st.yes i)) (t, s) (moved t s c.body (st.named i)))
      ∙ ap (λ (u : Trust). (u, snd_of (moved t s c.body (Some st.issuer)))) (sym st.trust)
      ∙ ap (λ (v : SessionValue). (t', v)) (sym st.session)
    where
      snd_of : Trust × SessionValue → SessionValue
      snd_of p = p.1

-- ---- what is answered

abbrev with_session : SessionValue → Trust → Option (Trust × SessionValue)
with_session s u = Some (u, s)

abbrev stood : ChipValue → Option (Trust × SessionValue)
stood x = Some (x.state, x.session)

module _ (tells : Type 0) (past told : ℕ → Standing) (from to : ℕ) (says : Says) (c c' : ChipValue) (bytes : List ℕ) where
  same_chip : c' ≡ c → stood c ≡ stood c'
  same_chip is = ap stood (sym is)

  settled_act : (cert : Cert) (judged : Judged) (result : Result Imported ChipRefusal) → Judges says c.state c.session cert judged → Follows tells past told from to c judged result c' → IsActOf tells past told from to c result (Some (given c.state c.session (Ok cert) (verdict_on says c.state c.session cert))) c'
  settled_act cert judged result j settles = subst (λ (p : Trust × SessionValue). IsActOf tells past told from to c result (Some p) c') (sym (judged_does says c.state c.session cert judged j)) (go judged result settles)
    where
      go : (d : Judged) (r : Result Imported ChipRefusal) → Follows tells past told from to c d r c' → IsActOf tells past told from to c r (Some (next_of d c.state c.session)) c'
      go judges.Held r x = subst (λ (q : Result Imported ChipRefusal). IsActOf tells past told from to c q (Some (c.state, c.session)) c') (sym x.0) (same_chip x.1)
      go (judges.Refused k) r x = subst (λ (q : Result Imported ChipRefusal). IsActOf tells past told from to c q (Some (c.state, c.session)) c') (sym x.0) (same_chip x.1)
      go (judges.Next t s what) (Ok w) (w_is, inl x) =
          ap (with_session s) x.same ∙ ap stood (sym x.chip)
      go (judges.Next t s what) (Ok w) (w_is, inr x) = ap stood (sym x.chip)
      go (judges.Next t s what) (Err refusal.DiskFault) x = record { trust = t; session = s; does_so = refl; leaves = x.leaves }
      go (judges.Next t s what) (Err refusal.Worn) x = tt
      go (judges.Next t s what) (Err refusal.NoChip) x = absurd x
      go (judges.Next t s what) (Err refusal.ProviderFault) x = absurd x
      go (judges.Next t s what) (Err refusal.NeedsOpen) x = absurd x
      go (judges.Next t s what) (Err (refusal.Syntax e)) x = absurd x
      go (judges.Next t s what) (Err (refusal.Refused k)) x = absurd x

  taken_act : (read : Result Cert CvcRefusal) (result : Result Imported ChipRefusal) → ImportsRead tells past told from to says c read result c' → IsActOf tells past told from to c result (Some (given c.state c.session read (verdict_read says c read))) c'
  taken_act (Ok cert) result (inl j) = settled_act cert j.judged result j.judges j.follows
  taken_act (Ok cert) result (inr u) = subst (λ (q : Result Imported ChipRefusal). IsActOf tells past told from to c q (Some (given c.state c.session (Ok cert) (verdict_on says c.state c.session cert))) c') (sym u.answer) tt
  taken_act (Err e) result x = subst (λ (q : Result Imported ChipRefusal). IsActOf tells past told from to c q (Some (c.state, c.session)) c') (sym x.0) (same_chip x.1)

  pub import_act : (result : Result Imported ChipRefusal) → Imports tells past told from to says c bytes result c' → IsActOf tells past told from to c result (does (Given bytes (verdict_of says c bytes)) (Some (c.state, c.session))) c'
  import_act result imports = go c.needs_opening imports
    where
      go : (b : Bool) → ImportsWhere tells past told from to b says c bytes result c' → IsActOf tells past told from to c result (Some (given c.state c.session (read_cert bytes) (verdict_read says c (read_cert bytes)))) c'
      go true x = subst (λ (q : Result Imported ChipRefusal). IsActOf tells past told from to c q (Some (given c.state c.session (read_cert bytes) (verdict_read says c (read_cert bytes)))) c') (sym x.0) tt
      go false x = taken_act (read_cert bytes) result x
