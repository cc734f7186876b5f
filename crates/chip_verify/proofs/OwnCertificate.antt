-- The test for the newest point's own certificate says what it should.
use Rattle.std.proofs.Common.{◌≡◌, ◌⊎◌, inl, inr, ℕ, Bool, true, false, cond, List, [], ◌∷◌, Option, Some, None, ◌↔◌, refl, sym, ◌∙◌, ap, subst}
use Rattle.std.specs.Prelude.{◌||◌, ◌==◌}
use Rattle.std.specs.Str.{bytes_eq}
use Rattle.std.proofs.lemmas.Bool.{eqb-true, eq-eqb}
use Rattle.eac_base.proofs.EqualBytes.{bytes_eq-self, bytes_eq-true}
use Rattle.eac_base.specs.Bytes.{is_empty}
use Rattle.chat_rights.specs.declared.Role.{Role}
use Rattle.chat_rights.specs.declared.Role.TheVariants.{Terminal, Foreign, Domestic, Cvca}
use Rattle.chat_rights.specs.declared.Template.{Template}
use Rattle.signature_provider.specs.declared.key.Algorithm.{Algorithm}
use Rattle.cvc_grammar.specs.declared.certificate.CertBody.{CertBody}
use Rattle.cvc_grammar.proofs.KeyAgain.{and_both}
use Rattle.chip_verify.proofs.SameValues.{both_true, either_true, template_is, template_self, algorithm_is, algorithm_self}
use Rattle.chip_verify.specs.declared.answers.ImportRefusal.{ImportRefusal}
use Rattle.chip_verify.specs.declared.answers.Checked.{Checked}
use Rattle.chip_verify.specs.declared.answers.Checked.TheVariants as checks
use Rattle.chip_verify.specs.declared.trust_point.TrustPoint.{TrustPoint}
use Rattle.chip_verify.specs.Trust.{Trust}
use Rattle.chip_verify.specs.Session.{SessionValue}
use Rattle.signature_provider.specs.Key.{same_algorithm}
use Rattle.chip_verify.specs.Refusals.{sort_of, is_link, same_template, same_kept_key, is_of, IsOwn, refused_or_ask, refusal_of, checked, is_held}

role_of_link : (r : Role) → is_link (sort_of r) ≡ true → r ≡ Cvca
role_of_link Cvca e = refl
role_of_link Domestic e = absurd cc
role_of_link Foreign e = absurd cc
role_of_link Terminal e = absurd cc

no_bytes : (bytes : List ℕ) → is_empty bytes ≡ true → bytes ≡ []
no_bytes [] e = refl
no_bytes (b ∷ bytes) e = absurd cc

same_true : (a b : List ℕ) → a ≡ b → bytes_eq a b ≡ true
same_true a b e = subst (λ (x : List ℕ). bytes_eq a x ≡ true) e (bytes_eq-self a)

-- ---- the whole test

domain_is : (d p : List ℕ) → (is_empty d || bytes_eq d p) ≡ true → (d ≡ []) ⊎ (d ≡ p)
domain_is d p e = elim (either_true (is_empty d) (bytes_eq d p) e) [ inl x ↦ inl (no_bytes d x) | inr x ↦ inr (bytes_eq-true d p x) ]

domain_tells : (d p : List ℕ) → (d ≡ []) ⊎ (d ≡ p) → (is_empty d || bytes_eq d p) ≡ true
domain_tells d p (inl none) = λ i. is_empty (none i) || bytes_eq (none i) p
domain_tells d p (inr same) = go (is_empty d)
  where
    go : (b : Bool) → (b || bytes_eq d p) ≡ true
    go true = refl
    go false = same_true d p same

own_is : (p : TrustPoint) (c : CertBody) → is_of p c ≡ true → IsOwn p c
own_is p c e =
    let key = and_both _ (same_kept_key c.key.algorithm c.key.domain c.key.point p.key) e in
    let until = and_both _ (c.until == p.until) key.0 in
    let from = and_both _ (c.from == p.from) until.0 in
    let template = and_both _ (same_template c.template p.template) from.0 in
    let holder = and_both (is_link (sort_of c.template.role)) (bytes_eq c.holder p.reference) template.0 in
    let domain = and_both _ (is_empty c.key.domain || bytes_eq c.key.domain p.key.domain) key.1 in
    let point = and_both (same_algorithm c.key.algorithm p.key.algorithm) (bytes_eq c.key.point p.key.point) domain.0 in
    record {
      role = role_of_link c.template.role holder.0;
      holder = bytes_eq-true c.holder p.reference holder.1;
      template = template_is c.template p.template template.1;
      from = eqb-true _ _ from.1;
      until = eqb-true _ _ until.1;
      algorithm = algorithm_is c.key.algorithm p.key.algorithm point.0;
      point = bytes_eq-true c.key.point p.key.point point.1;
      domain = domain_is c.key.domain p.key.domain domain.1;
    }

own_tells : (p : TrustPoint) (c : CertBody) → IsOwn p c → is_of p c ≡ true
own_tells p c o =
    both_true _ _
    (both_true _ _
    (both_true _ _
    (both_true _ _
    (both_true _ _ (ap (λ (r : Role). is_link (sort_of r)) o.role) (same_true c.holder p.reference o.holder))
    (subst (λ (x : Template). same_template c.template x ≡ true) o.template (template_self c.template)))
    (eq-eqb c.from p.from o.from))
    (eq-eqb c.until p.until o.until))
    (both_true _ _
    (both_true _ _
    (subst (λ (x : Algorithm). same_algorithm c.key.algorithm x ≡ true) o.algorithm (algorithm_self c.key.algorithm))
    (same_true c.key.point p.key.point o.point))
    (domain_tells c.key.domain p.key.domain o.domain))

held_where : (held : Bool) (refusal : Option ImportRefusal) → cond held checks.Held (refused_or_ask refusal) ≡ checks.Held → held ≡ true
held_where true refusal e = refl
held_where false (Some k) e = absurd cc
held_where false None e = absurd cc

pub check_holds : (t : Trust) (s : SessionValue) (c : CertBody) (result : Checked) → result ≡ checked t s c → (result ≡ checks.Held) ↔ IsOwn t.newest c
check_holds t s c result is = (
  (λ held. own_is t.newest c (held_where (is_held t c) (refusal_of t s c) (sym is ∙ held))),
  (λ own. is ∙ (λ i. cond (own_tells t.newest c own i) checks.Held (refused_or_ask (refusal_of t s c)))),
)
