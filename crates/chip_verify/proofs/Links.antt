-- What an accepted link has passed.
use Rattle.std.proofs.Common.{◌≡◌, ◌<◌, ℕ, List, Option, Some, None, Bool, true, false, cond, refl, sym, ◌∙◌, subst, arith}
use Rattle.std.proofs.lemmas.Bool.Decides.{nat_tests}
use Rattle.std.specs.Prelude.{not, ◌||◌, nat_le}
use Rattle.std.specs.Str.{bytes_eq}
use Rattle.eac_base.proofs.EqualBytes.{bytes_eq-self, bytes_eq-true}
use Rattle.chat_rights.specs.declared.Kind.{Kind}
use Rattle.chat_rights.specs.declared.Kind.TheVariants.{Inspection}
use Rattle.cvc_grammar.specs.declared.certificate.CertBody.{CertBody}
use Rattle.chip_verify.specs.declared.answers.ImportRefusal.{ImportRefusal}
use Rattle.chip_verify.specs.Trust.{Trust, IsTrust}
use Rattle.chip_verify.specs.Session.{SessionValue}
use Rattle.chip_verify.specs.Refusals.{Sort, Link, OfVerifier, OfTerminal, sort_of, Issuer, is_point, issuer_of, same_kind, template_of, wrong_role, first_refusal, refusal_of}
use Rattle.chip_verify.specs.Step.{trust_after, Step}

-- what the first test passes, and then the rest
pub found_none : {A : Type 0} (b : Bool) (x : A) (rest : Option A) → cond b (Some x) rest ≡ None → (b ≡ false) × (rest ≡ None)
found_none true x rest h = absurd (cc)
found_none false x rest h = (refl, h)

pub either_false : (a b : Bool) → (a || b) ≡ false → (a ≡ false) × (b ≡ false)
either_false true b h = absurd (cc)
either_false false b h = (refl, h)

shown : (b : Bool) → not b ≡ false → b ≡ true
shown true h = refl
shown false h = absurd (cc)

later_than : (a b : ℕ) → nat_le a b ≡ false → b < a
later_than a b h = grind (arith, nat_tests)

-- with one kind, two are the same
pub one_kind : (a b : Kind) → same_kind a b ≡ true
one_kind Inspection Inspection = refl

-- what is left of the table behind its first row
pub behind_kind : (a b : Kind) (x : ImportRefusal) (rest : Option ImportRefusal) → cond (not (same_kind a b)) (Some x) rest ≡ rest
behind_kind Inspection Inspection x rest = refl

pub record LinkFacts (t : Trust) (c : CertBody) : Type 0 where
  pub newest : bytes_eq t.newest.reference c.authority ≡ true
  pub other : bytes_eq c.authority c.holder ≡ false
  pub later : t.newest.from < c.from

link_passed : (t : Trust) (c : CertBody) (i : Issuer) → first_refusal Link t c (Some i) ≡ None → LinkFacts t c
link_passed t c i none =
    let role = found_none (wrong_role c i Link) _ _ (found_none (not (same_kind c.template.kind (template_of i).kind)) _ _ none).1 in
    let key = found_none _ _ _ role.1 in
    let branch = found_none (not (bytes_eq t.newest.reference c.authority)) _ _ key.1 in
    let late = found_none (nat_le c.from t.newest.from) _ _ branch.1 in
    let same : bytes_eq t.newest.reference c.authority ≡ true = shown (bytes_eq t.newest.reference c.authority) branch.0 in
    record {
      newest = same;
      other = (either_false (not (is_point i)) (bytes_eq c.authority c.holder) role.0).1;
      later = later_than c.from t.newest.from late.0;
    }

pub link_facts : (t : Trust) (s : SessionValue) (c : CertBody) (i : Issuer) → issuer_of t s c ≡ Some i → refusal_of t s c ≡ None → sort_of c.template.role ≡ Link → LinkFacts t c
link_facts t s c i is none sort = link_passed t c i (subst (λ (p : Sort × Option Issuer). first_refusal p.0 t c p.1 ≡ None) (λ j. (sort j, is j)) none)

-- the link's point differs from the one that it replaces as the newest
pub link_trust : (t : Trust) (c : CertBody) → LinkFacts t c → t.newest.reference ≡ c.holder → ⊥
link_trust t c f same =
    let authority : t.newest.reference ≡ c.authority = bytes_eq-true t.newest.reference c.authority f.newest in
    let one : bytes_eq c.authority c.holder ≡ true = subst (λ (r : List ℕ). bytes_eq r c.holder ≡ true) (sym same ∙ authority) (bytes_eq-self c.holder) in
    absurd (cc (one, f.other))

-- a trust stays one
pub step_trust : (t : Trust) (s : SessionValue) (c : CertBody) (verdict : Bool) (t' : Trust) (s' : SessionValue) → IsTrust t → Step t s c verdict t' s' → IsTrust t'
step_trust t s c verdict t' s' is st = subst IsTrust (sym st.trust) (go (sort_of c.template.role) refl)
  where
    go : (so : Sort) → sort_of c.template.role ≡ so → IsTrust (trust_after so t s c st.issuer)
    go Link sort = let f = link_facts t s c st.issuer st.named st.allowed sort in record { older = record { reference = link_trust t c f; from = f.later } }
    go OfVerifier sort = record { older = is.older }
    go OfTerminal sort = record { older = is.older }
