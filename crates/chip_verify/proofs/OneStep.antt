-- A certificate that is held or refused leads nowhere, and one that is taken to one place.
use Rattle.std.proofs.Common.{◌≡◌, inl, inr, Option, Some, None, Bool, true, false, cond, refl, sym, ◌∙◌, ap, true≢false}
use Rattle.signature_provider.specs.Provider.{Says}
use Rattle.cvc_grammar.specs.declared.certificate.CertBody.{CertBody}
use Rattle.cvc_grammar.specs.declared.certificate.Cert.{Cert}
use Rattle.chip_verify.specs.declared.answers.ImportRefusal.{ImportRefusal}
use Rattle.chip_verify.specs.declared.answers.Checked.TheVariants as checks
use Rattle.chip_verify.specs.declared.answers.Judged.{Judged}
use Rattle.chip_verify.specs.declared.answers.Judged.TheVariants as judges
use Rattle.chip_verify.specs.Trust.{Trust}
use Rattle.chip_verify.specs.Session.{SessionValue}
use Rattle.chip_verify.specs.Refusals.{Issuer, sort_of, is_held, refusal_of, refused_or_ask, checked}
use Rattle.chip_verify.specs.Step.{trust_after, session_after, Step, NoStep, Moves, Judges, Stores, verdict_on}

-- A step is asked for.
asks : (held : Bool) (refusal : Option ImportRefusal) → held ≡ false → refusal ≡ None → cond held checks.Held (refused_or_ask refusal) ≡ checks.Ask
asks true refusal h r = absurd (true≢false h)
asks false (Some k) h r = absurd cc
asks false None h r = refl

step_asks : (t : Trust) (s : SessionValue) (c : CertBody) (verdict : Bool) (t' : Trust) (s' : SessionValue) → Step t s c verdict t' s' → checked t s c ≡ checks.Ask
step_asks t s c verdict t' s' st = asks (is_held t c) (refusal_of t s c) st.not_held st.allowed

pub held_is_no_step : (says : Says) (t : Trust) (s : SessionValue) (c : Cert) → Judges says t s c judges.Held → NoStep t s c.body (verdict_on says t s c)
held_is_no_step says t s c held mid next st = let other : checks.Held ≡ checks.Ask = sym held ∙ step_asks t s c.body _ mid next st in absurd cc

pub refused_is_no_step : (says : Says) (t : Trust) (s : SessionValue) (c : Cert) (k : ImportRefusal) → Judges says t s c (judges.Refused k) → NoStep t s c.body (verdict_on says t s c)
refused_is_no_step says t s c k (inl row) mid next st = let other : checks.Refused k ≡ checks.Ask = sym row ∙ step_asks t s c.body _ mid next st in absurd cc
refused_is_no_step says t s c k (inr unsigned) mid next st = absurd (true≢false (sym st.yes ∙ unsigned.said))

some_issuer : (a b : Issuer) → Some a ≡ Some b → a ≡ b
some_issuer a b e = cc

pub one_step : (t : Trust) (s : SessionValue) (c : CertBody) (verdict : Bool) (t' u' : Trust) (s' r' : SessionValue) → Step t s c verdict t' s' → Step t s c verdict u' r' → (t' ≡ u') × (s' ≡ r')
one_step t s c verdict t' u' s' r' one two =
    let same = some_issuer one.issuer two.issuer (sym one.named ∙ two.named) in
    (one.trust ∙ ap (trust_after (sort_of c.template.role) t s c) same ∙ sym two.trust, one.session ∙ ap (session_after (sort_of c.template.role) s c) same ∙ sym two.session)

-- What was judged and stored is a move.
pub stored_moves : (says : Says) (t : Trust) (s : SessionValue) (c : Cert) (j : Judged) (t' : Trust) (s' : SessionValue) → Judges says t s c j → Stores t s j t' s' → Moves t s c.body (verdict_on says t s c) t' s'
stored_moves says t s c judges.Held t' s' j st = inr (held_is_no_step says t s c j, st)
stored_moves says t s c (judges.Refused k) t' s' j st = inr (refused_is_no_step says t s c k j, st)
stored_moves says t s c (judges.Next u r what) t' s' j st = inl (moved j.step)
  where
    moved : Step t s c.body (verdict_on says t s c) u r → Step t s c.body (verdict_on says t s c) t' s'
    moved step = record { issuer = step.issuer; named = step.named; not_held = step.not_held; allowed = step.allowed; yes = step.yes; trust = st.trust ∙ step.trust; session = st.session ∙ step.session }
