-- What is known of the key of a certificate that was read, and of a link that is taken.
use Rattle.std.proofs.Common.{◌≡◌, ℕ, ◌≤◌, Bool, true, false, cond, List, [], ◌∷◌, ◌++◌, length, None, refl, sym, subst, ap, arith}
use Rattle.std.specs.Prelude.{IsTrue, not, ◌&&◌}
use Rattle.std.proofs.lemmas.List.{length-append}
use Rattle.std.proofs.lemmas.Bool.{leb-true}
use Rattle.eac_base.specs.Bytes.{is_empty}
use Rattle.tlv_core.specs.Object.{object}
use Rattle.chat_rights.specs.declared.Role.{Role}
use Rattle.chat_rights.specs.declared.Role.TheVariants.{Terminal, Foreign, Domestic, Cvca}
use Rattle.signature_provider.specs.declared.key.Key.{Key}
use Rattle.signature_provider.specs.Key.{is_algorithm, is_elliptic, is_key, key_fits, is_elliptic_key, is_rsa_key, is_rsa_point, key_content, key_object, key_values, algorithm_identifier}
use Rattle.cvc_grammar.specs.declared.certificate.CertView.{CertView}
use Rattle.cvc_grammar.proofs.CertAgain.{longer, point_short}
use Rattle.cvc_grammar.proofs.KeyAgain.{and_both}
use Rattle.chip_verify.specs.Trust.{Trust, IsPoint, IsLegalTrust}
use Rattle.chip_verify.specs.Session.{SessionValue}
use Rattle.chip_verify.specs.Refusals.{Issuer, sort_of, is_link}
use Rattle.chip_verify.specs.Root.{is_root, root_point}
use Rattle.chip_verify.specs.declared.trust_point.TrustPoint.{TrustPoint}
use Rattle.chip_verify.specs.Views.{IsView, MayBeTaken, seen_body}
use Rattle.chip_verify.specs.Following.{KeyFits, LinkFits}
use Rattle.chip_verify.proofs.Links.{link_facts, link_trust}

-- ---- a legal key

abbrev is_key_of_parts : Bool → List ℕ → List ℕ → List ℕ → Bool
is_key_of_parts elliptic d p c = cond elliptic (is_elliptic_key d p c) (is_rsa_key d p c)

values_hold_domain : (b : Bool) (d p c : List ℕ) → is_key_of_parts b d p c ≡ true → length d ≤ length (cond b (d ++ object 0x86 p ++ c) p)
values_hold_domain true d p c h = omega (arith, length-append (d ++ object 0x86 p) c, length-append d (object 0x86 p))
values_hold_domain false [] p c h = omega arith
values_hold_domain false (x ∷ d) p c h = absurd cc

point_stands : (b : Bool) (d p c : List ℕ) → is_key_of_parts b d p c ≡ true → not (is_empty p) ≡ true
point_stands true d p c h = (and_both (not (is_empty p)) _ h).0
point_stands false d (x ∷ p) c h = refl
point_stands false d [] c h = absurd (cc ((and_both (is_empty d && is_empty c) (is_rsa_point []) h).1))

abbrev parts_are : Key → Type 0
parts_are k = is_key_of_parts (is_elliptic k.algorithm) k.domain k.point k.cofactor ≡ true

domain_short : (k : Key) → parts_are k → IsTrue (key_fits k) → length k.domain ≤ 1024
domain_short k parts fits =
    omega (
      arith,
      leb-true (length (key_object k)) 1024 fits,
      longer 0x7f49 (key_content k),
      length-append (object 0x06 (algorithm_identifier k.algorithm)) (key_values k),
      values_hold_domain (is_elliptic k.algorithm) k.domain k.point k.cofactor parts,
    )

-- ---- a certificate that was read

pub record HasKey (k : Key) : Type 0 where
  pub algorithm : IsTrue (is_algorithm k.algorithm)
  pub parts : parts_are k
  pub fits : IsTrue (key_fits k)

has_key : (v : CertView) → IsView v → HasKey (seen_body v).key
has_key v is =
    let k = (seen_body v).key in
    let keys = and_both (is_key k) (key_fits k) is.1.cert.limits.key in
    let parts = and_both (is_algorithm k.algorithm) _ keys.0 in
    record { algorithm = parts.0; parts = parts.1; fits = keys.1 }

pub key_has_room : (v : CertView) → IsView v → KeyFits v
key_has_room v is =
    let h = has_key v is in
    record { domain = domain_short (seen_body v).key h.parts h.fits; point = point_short (seen_body v).key h.fits }

-- ---- a link that is taken

pub link_fits : (t : Trust) (s : SessionValue) (v : CertView) (i : Issuer) → IsView v → MayBeTaken t s (seen_body v) i → v.template.role ≡ Cvca → LinkFits t (seen_body v)
link_fits t s v i is taken role =
    let k = (seen_body v).key in
    let h = has_key v is in
    let f = link_facts t s (seen_body v) i taken.named taken.allowed (ap sort_of role) in
    record {
      role = role;
      algorithm = h.algorithm;
      point = point_stands (is_elliptic k.algorithm) k.domain k.point k.cofactor h.parts;
      reference = link_trust t (seen_body v) f;
      from = f.later;
    }

-- ---- a certificate that a chip is made with

role_of_link : (r : Role) → is_link (sort_of r) ≡ true → r ≡ Cvca
role_of_link Cvca e = refl
role_of_link Domestic e = absurd cc
role_of_link Foreign e = absurd cc
role_of_link Terminal e = absurd cc

root_legal : (v : CertView) → IsView v → is_root (seen_body v) ≡ true → IsPoint (root_point (seen_body v))
root_legal v is root =
    let k = (seen_body v).key in
    let h = has_key v is in
    record {
      role = role_of_link v.template.role (and_both (is_link (sort_of v.template.role)) _ root).0;
      algorithm = h.algorithm;
      key = point_stands (is_elliptic k.algorithm) k.domain k.point k.cofactor h.parts;
    }

pub first_legal : (v : CertView) (day : ℕ) (p : TrustPoint) → IsView v → is_root (seen_body v) ≡ true → p ≡ root_point (seen_body v) → IsLegalTrust (record { day = day; older = None; newest = p })
first_legal v day p is root same = record { trust = record { older = tt }; newest = subst IsPoint (sym same) (root_legal v is root); older = tt }
