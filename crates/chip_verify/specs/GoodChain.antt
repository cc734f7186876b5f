-- A finished chain of certificates under which a chip grants a terminal access (BSI TR-03110-3, certificate chains; that
-- a link comes only from the newest point and only with a later effective date is this project's own).
use Rattle.std.specs.Prelude.{◌≡◌, ◌≢◌, ◌<◌, ◌≤◌, ◌⊎◌, ℕ, max, List, [], ◌∷◌, ◌++◌, true}
use Rattle.chat_rights.specs.declared.Role.TheVariants.{Cvca, Domestic, Foreign, Terminal}
use Rattle.signature_provider.specs.Key.{is_elliptic}
use Rattle.signature_provider.specs.Provider.{Says}
use Rattle.cvc_grammar.specs.Certificate.{body_text}
use Rattle.cvc_grammar.specs.declared.certificate.CertBody.{CertBody}
use Rattle.cvc_grammar.specs.declared.certificate.Cert.{Cert}
use Rattle.chip_verify.specs.declared.trust_point.TrustPoint.{TrustPoint}
use Rattle.chip_verify.specs.Trust.{Trust, older_points, certified}
use Rattle.chip_verify.specs.Session.{SessionValue, no_session}
use Rattle.chip_verify.specs.Refusals.{Link, OfVerifier, OfTerminal, sort_of}
use Rattle.chip_verify.specs.Step.{full_key, verdict_on, Step}
use Rattle.chip_verify.specs.Later.{IsAmong}

-- ---- the whole chain

-- The point that a link makes under another.
abbrev pub linked : TrustPoint → CertBody → TrustPoint
linked p c = certified c (full_key c.key p.key)

-- A link under a point. It may have expired.
pub record IsLink (says : Says) (p : TrustPoint) (l : Cert) : Type 0 where
  pub role : l.body.template.role ≡ Cvca
  pub other : l.body.authority ≢ l.body.holder
  pub issuer : l.body.authority ≡ p.reference
  pub later : p.from < l.body.from
  -- elliptic with a domain, or elliptic under an elliptic issuer, or RSA
  pub key : (l.body.key.domain ≢ []) ⊎ ((is_elliptic p.key.algorithm ≡ true) ⊎ (is_elliptic l.body.key.algorithm ≢ true))
  pub said : says p.key (body_text l.body) l.signature ≡ true

-- Each link is under the one before it, the first under the newest point.
abbrev pub AreLinks : Says → TrustPoint → List Cert → Type 0
AreLinks says p [] = Unit {0}
AreLinks says p (l ∷ ls) = IsLink says p l × AreLinks says (linked p l.body) ls

-- The trust's own points, or the last link and what stood before it.
abbrev pub points_with : TrustPoint → List TrustPoint → List Cert → List TrustPoint
points_with p older [] = p ∷ older
points_with p older (l ∷ ls) = points_with (linked p l.body) (p ∷ []) ls

-- The greatest of the day and the effective dates.
abbrev pub latest : ℕ → List Cert → ℕ
latest day [] = day
latest day (c ∷ cs) = latest (max day c.body.from) cs

-- A verifier's certificate under a point, on a day.
pub record IsVerifier (says : Says) (p : TrustPoint) (day : ℕ) (v : Cert) : Type 0 where
  pub role : (v.body.template.role ≡ Domestic) ⊎ (v.body.template.role ≡ Foreign)
  pub issuer : v.body.authority ≡ p.reference
  pub alive : (day ≤ p.until) × (day ≤ v.body.until)
  pub key : (v.body.key.algorithm ≡ p.key.algorithm) × (v.body.key.domain ≡ [])
  pub said : says p.key (body_text v.body) v.signature ≡ true

-- A terminal's certificate under a verifier's under a point, on a day.
pub record IsTerminal (says : Says) (p : TrustPoint) (v : Cert) (day : ℕ) (w : Cert) : Type 0 where
  pub role : w.body.template.role ≡ Terminal
  pub issuer : w.body.authority ≡ v.body.holder
  pub alive : (day ≤ v.body.until) × (day ≤ w.body.until)
  pub key : (w.body.key.algorithm ≡ v.body.key.algorithm) × (w.body.key.domain ≡ [])
  pub said : says (full_key v.body.key p.key) (body_text w.body) w.signature ≡ true

-- No point has this reference.
abbrev pub IsNone : List TrustPoint → List ℕ → Type 0
IsNone [] reference = Unit {0}
IsNone (p ∷ ps) reference = (p.reference ≢ reference) × IsNone ps reference

-- Links, a verifier's certificate and a terminal's.
pub record GoodChain (says : Says) (t : Trust) (links : List Cert) (v w : Cert) : Type 0 where
  pub linked_up : AreLinks says t.newest links
  pub point : TrustPoint
  pub among : IsAmong point (points_with t.newest (older_points t.older) links)
  pub verifier : IsVerifier says point (latest t.day links) v
  pub terminal : IsTerminal says point v (max (latest t.day links) v.body.from) w
  pub own : IsNone (points_with t.newest (older_points t.older) links) w.body.authority

-- ---- the same one by one

-- Each certificate in turn is accepted, by what the provider says of its signature.
abbrev pub Accepts : Says → Trust → SessionValue → List Cert → Trust → SessionValue → Type 0
Accepts says t s [] t' s' = (t' ≡ t) × (s' ≡ s)
Accepts says t s (c ∷ cs) t' s' =
    (mid : Trust) × (next : SessionValue) × Step t s c.body (verdict_on says t s c) mid next
    × Accepts says mid next cs t' s'

abbrev pub AllLinks : List Cert → Type 0
AllLinks [] = Unit {0}
AllLinks (l ∷ ls) = (sort_of l.body.template.role ≡ Link) × AllLinks ls

-- The certificates have the roles of a chain.
pub record AreInOrder (links : List Cert) (v w : Cert) : Type 0 where
  pub are_links : AllLinks links
  pub verifier : sort_of v.body.template.role ≡ OfVerifier
  pub terminal : sort_of w.body.template.role ≡ OfTerminal

-- The chain's certificates are accepted one after another, from an empty session on.
pub record IsAccepted (says : Says) (t : Trust) (links : List Cert) (v w : Cert) : Type 0 where
  pub roles : AreInOrder links v w
  pub trust : Trust
  pub session : SessionValue
  pub steps : Accepts says t no_session (links ++ v ∷ w ∷ []) trust session
