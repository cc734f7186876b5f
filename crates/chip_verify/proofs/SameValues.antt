-- The tests for the same template, algorithm and trust tell equality.
use Rattle.std.proofs.Common.{◌≡◌, ◌⊎◌, inl, inr, Bool, true, false, Option, Some, None, ◌↔◌, refl, sym, ◌∙◌, ap, subst}
use Rattle.std.specs.Prelude.{◌&&◌, ◌||◌, ◌==◌}
use Rattle.std.specs.Str.{bytes_eq}
use Rattle.std.proofs.lemmas.Bool.{eqb-true, eq-eqb}
use Rattle.eac_base.proofs.EqualBytes.{bytes_eq-self, bytes_eq-true}
use Rattle.chat_rights.specs.declared.Kind.{Kind}
use Rattle.chat_rights.specs.declared.Kind.TheVariants.{Inspection}
use Rattle.chat_rights.specs.declared.Role.{Role}
use Rattle.chat_rights.specs.declared.Role.TheVariants.{Terminal, Foreign, Domestic, Cvca}
use Rattle.chat_rights.specs.declared.Template.{Template}
use Rattle.chat_rights.specs.Template.{role_number, role_of}
use Rattle.signature_provider.specs.declared.key.Algorithm.{Algorithm}
use Rattle.signature_provider.specs.Provider.{PublicKey, same_key}
use Rattle.cvc_grammar.proofs.KeyAgain.{and_both}
use Rattle.chip_verify.specs.declared.trust_point.TrustPoint.{TrustPoint}
use Rattle.chip_verify.specs.Trust.{Trust}
use Rattle.signature_provider.specs.Key.{same_algorithm}
use Rattle.chip_verify.specs.Refusals.{same_kind, same_template}
use Rattle.chip_verify.specs.Same.{same_point, same_older, same_trust}

pub both_true : (a b : Bool) → a ≡ true → b ≡ true → (a && b) ≡ true
both_true a b p q = (λ i. p i && b) ∙ q

pub either_true : (a b : Bool) → (a || b) ≡ true → (a ≡ true) ⊎ (b ≡ true)
either_true true b e = inl refl
either_true false b e = inr e

-- ---- parts

role_again : (r : Role) → role_of (role_number r) ≡ r
role_again Terminal = refl
role_again Foreign = refl
role_again Domestic = refl
role_again Cvca = refl

kind_same : (a b : Kind) → a ≡ b
kind_same Inspection Inspection = refl

pub template_is : (a b : Template) → same_template a b ≡ true → a ≡ b
template_is a b e =
    let rights = and_both (same_kind a.kind b.kind && (role_number a.role == role_number b.role)) (a.rights == b.rights) e in
    let roles = and_both (same_kind a.kind b.kind) (role_number a.role == role_number b.role) rights.0 in
    let role = sym (role_again a.role) ∙ ap role_of (eqb-true _ _ roles.1) ∙ role_again b.role in
    let number = eqb-true _ _ rights.1 in
    λ i. record { kind = kind_same a.kind b.kind i; role = role i; rights = number i }

pub template_self : (a : Template) → same_template a a ≡ true
template_self a = both_true _ _ (both_true _ _ (go a.kind) (eq-eqb (role_number a.role) (role_number a.role) refl)) (eq-eqb a.rights a.rights refl)
  where
    go : (k : Kind) → same_kind k k ≡ true
    go Inspection = refl

pub algorithm_is : (a b : Algorithm) → same_algorithm a b ≡ true → a ≡ b
algorithm_is a b e =
    let parts = and_both (a.arc == b.arc) (a.last == b.last) e in
    let arc = eqb-true _ _ parts.0 in
    let last = eqb-true _ _ parts.1 in
    λ i. record { arc = arc i; last = last i }

pub algorithm_self : (a : Algorithm) → same_algorithm a a ≡ true
algorithm_self a = both_true _ _ (eq-eqb a.arc a.arc refl) (eq-eqb a.last a.last refl)

-- ---- keys, points, trusts

key_is : (a b : PublicKey) → same_key a b ≡ true → a ≡ b
key_is a b e =
    let points = and_both _ (bytes_eq a.point b.point) e in
    let domains = and_both _ (bytes_eq a.domain b.domain) points.0 in
    let algorithm = algorithm_is a.algorithm b.algorithm domains.0 in
    let domain = bytes_eq-true a.domain b.domain domains.1 in
    let point = bytes_eq-true a.point b.point points.1 in
    λ i. record { algorithm = algorithm i; domain = domain i; point = point i }

key_self : (a : PublicKey) → same_key a a ≡ true
key_self a = both_true _ _ (both_true _ _ (algorithm_self a.algorithm) (bytes_eq-self a.domain)) (bytes_eq-self a.point)

point_is : (a b : TrustPoint) → same_point a b ≡ true → a ≡ b
point_is a b e =
    let keys = and_both _ (same_key a.key b.key) e in
    let untils = and_both _ (a.until == b.until) keys.0 in
    let froms = and_both _ (a.from == b.from) untils.0 in
    let templates = and_both (bytes_eq a.reference b.reference) (same_template a.template b.template) froms.0 in
    let reference = bytes_eq-true a.reference b.reference templates.0 in
    let template = template_is a.template b.template templates.1 in
    let from = eqb-true a.from b.from froms.1 in
    let until = eqb-true a.until b.until untils.1 in
    let key = key_is a.key b.key keys.1 in
    λ i. record { reference = reference i; template = template i; from = from i; until = until i; key = key i }

point_self : (a : TrustPoint) → same_point a a ≡ true
point_self a =
    both_true _ _
    (both_true _ _ (both_true _ _ (both_true _ _ (bytes_eq-self a.reference) (template_self a.template)) (eq-eqb a.from a.from refl)) (eq-eqb a.until a.until refl))
    (key_self a.key)

older_is : (a b : Option TrustPoint) → same_older a b ≡ true → a ≡ b
older_is None None e = refl
older_is None (Some b) e = absurd cc
older_is (Some a) None e = absurd cc
older_is (Some a) (Some b) e = ap Some (point_is a b e)

older_self : (a : Option TrustPoint) → same_older a a ≡ true
older_self None = refl
older_self (Some a) = point_self a

trust_is : (a b : Trust) → same_trust a b ≡ true → a ≡ b
trust_is a b e =
    let newests = and_both _ (same_point a.newest b.newest) e in
    let olders = and_both (a.day == b.day) (same_older a.older b.older) newests.0 in
    let day = eqb-true a.day b.day olders.0 in
    let older = older_is a.older b.older olders.1 in
    let newest = point_is a.newest b.newest newests.1 in
    λ i. record { day = day i; older = older i; newest = newest i }

trust_self : (a : Trust) → same_trust a a ≡ true
trust_self a = both_true _ _ (both_true _ _ (eq-eqb a.day a.day refl) (older_self a.older)) (point_self a.newest)

pub same_trusts : (a b : Trust) → (same_trust a b ≡ true) ↔ (a ≡ b)
same_trusts a b = (trust_is a b, (λ (e : a ≡ b). subst (λ (x : Trust). same_trust a x ≡ true) e (trust_self a)))
