-- What an accepted certificate does to a chip (BSI TR-03110-3, certificate validation and the chip's current date).
use Rattle.std.specs.Prelude.{◌≡◌, ◌⊎◌, ◌&&◌, ℕ, max, List, Option, Some, None, Bool, true, false, if◌then◌else◌}
use Rattle.eac_base.specs.Bytes.{is_empty}
use Rattle.chat_rights.specs.declared.Role.{Role}
use Rattle.chat_rights.specs.declared.Role.TheVariants.{Cvca, Domestic, Foreign, Terminal}
use Rattle.signature_provider.specs.declared.key.Algorithm.{Algorithm}
use Rattle.signature_provider.specs.declared.key.Key.{Key}
use Rattle.signature_provider.specs.Key.{is_elliptic}
use Rattle.signature_provider.specs.Provider.{PublicKey, Says}
use Rattle.cvc_grammar.specs.Certificate.{body_text}
use Rattle.cvc_grammar.specs.declared.certificate.CertBody.{CertBody}
use Rattle.cvc_grammar.specs.declared.certificate.Cert.{Cert}
use Rattle.chip_verify.specs.declared.trust_point.TrustPoint.{TrustPoint}
use Rattle.chip_verify.specs.declared.session.Verified.{Verified}
use Rattle.chip_verify.specs.declared.answers.ImportRefusal.{ImportRefusal}
use Rattle.chip_verify.specs.declared.answers.ImportRefusal.TheVariants as refusal
use Rattle.chip_verify.specs.declared.answers.Checked.TheVariants as checks
use Rattle.chip_verify.specs.declared.answers.Imported.{Imported}
use Rattle.chip_verify.specs.declared.answers.Imported.TheVariants as imports
use Rattle.chip_verify.specs.declared.answers.Judged.{Judged}
use Rattle.chip_verify.specs.declared.answers.Judged.TheVariants.{Held, Refused, Next}
use Rattle.chip_verify.specs.Trust.{Trust, certified}
use Rattle.chip_verify.specs.Session.{SessionValue, no_session}
use Rattle.chip_verify.specs.Refusals.{Sort, Link, OfVerifier, OfTerminal, sort_of, Issuer, key_of, root_of, issuer_of, is_held, refusal_of, checked}

-- ---- what is kept of a certificate

-- A key without a domain takes its issuer's, but an RSA key stays without one.
abbrev pub full_public_key : Algorithm → List ℕ → List ℕ → PublicKey → PublicKey
full_public_key algorithm domain point issuer = record {
  algorithm = algorithm;
  domain = if is_elliptic algorithm && is_empty domain then issuer.domain else domain;
  point = point;
}

abbrev pub full_key : Key → PublicKey → PublicKey
full_key k issuer = full_public_key k.algorithm k.domain k.point issuer

abbrev pub new_point : CertBody → Issuer → TrustPoint
new_point c i = certified c (full_key c.key (key_of i))

abbrev pub verified : CertBody → Issuer → Verified
verified c i = record {
  reference = c.holder;
  template = c.template;
  until = c.until;
  key = full_key c.key (key_of i);
  root = root_of i;
}

-- ---- the trust and the session that follow

abbrev pub is_domestic : Role → Bool
is_domestic Domestic = true
is_domestic Foreign = false
is_domestic Terminal = false
is_domestic Cvca = false

-- The session's verifier is one of the chip's own country.
abbrev pub is_under_domestic : Option Verified → Bool
is_under_domestic (Some v) = is_domestic v.template.role
is_under_domestic None = false

-- A link and a verifier raise the day to their effective date, where it is later; a terminal does under a domestic verifier.
abbrev pub day_after : Sort → Trust → SessionValue → CertBody → ℕ
day_after Link t s c = max t.day c.from
day_after OfVerifier t s c = max t.day c.from
day_after OfTerminal t s c = if is_under_domestic s.verifier then max t.day c.from else t.day

-- A link's point is the newest, and the former newest the older one. All others keep the points.
abbrev pub trust_after : Sort → Trust → SessionValue → CertBody → Issuer → Trust
trust_after Link t s c i = record { day = day_after Link t s c; older = Some t.newest; newest = new_point c i }
trust_after OfVerifier t s c i = record { day = day_after OfVerifier t s c; older = t.older; newest = t.newest }
trust_after OfTerminal t s c i = record { day = day_after OfTerminal t s c; older = t.older; newest = t.newest }

-- A link empties the session. A verifier stands in it alone, and a terminal beside its verifier.
abbrev pub session_after : Sort → SessionValue → CertBody → Issuer → SessionValue
session_after Link s c i = no_session
session_after OfVerifier s c i = record { verifier = Some (verified c i); terminal = None }
session_after OfTerminal s c i = record { verifier = s.verifier; terminal = Some c.template.rights }

-- ---- one accepted certificate, with the provider's verdict on its signature

pub record Step (t : Trust) (s : SessionValue) (c : CertBody) (verdict : Bool) (t' : Trust) (s' : SessionValue) : Type 0 where
  pub issuer : Issuer
  pub named : issuer_of t s c ≡ Some issuer
  pub not_held : is_held t c ≡ false
  pub allowed : refusal_of t s c ≡ None
  pub yes : verdict ≡ true
  pub trust : t' ≡ trust_after (sort_of c.template.role) t s c issuer
  pub session : s' ≡ session_after (sort_of c.template.role) s c issuer

-- No step leads on.
abbrev pub NoStep : Trust → SessionValue → CertBody → Bool → Type 0
NoStep t s c verdict = (mid : Trust) (next : SessionValue) → Step t s c verdict mid next → ⊥

-- The chip as it was.
pub record Stands (t : Trust) (s : SessionValue) (t' : Trust) (s' : SessionValue) : Type 0 where
  pub trust : t' ≡ t
  pub session : s' ≡ s

-- A certificate moves the chip by a step, or none leads on and nothing changes.
abbrev pub Moves : Trust → SessionValue → CertBody → Bool → Trust → SessionValue → Type 0
Moves t s c verdict t' s' = Step t s c verdict t' s' ⊎ (NoStep t s c verdict × Stands t s t' s')

-- ---- what a call answers

-- What the provider says of a certificate's signature over its whole body, for the issuer's key.
abbrev pub verdict_under : Says → Option Issuer → Cert → Bool
verdict_under says (Some i) c = says (key_of i) (body_text c.body) c.signature
verdict_under says None c = false

abbrev pub verdict_on : Says → Trust → SessionValue → Cert → Bool
verdict_on says t s c = verdict_under says (issuer_of t s c.body) c

abbrev pub imported_as : Sort → Imported
imported_as Link = imports.Link
imported_as OfVerifier = imports.Verifier
imported_as OfTerminal = imports.Terminal

-- The last row of the table: no earlier one applies, and the provider says no.
pub record IsUnsigned (says : Says) (t : Trust) (s : SessionValue) (c : Cert) (k : ImportRefusal) : Type 0 where
  pub asked : checked t s c.body ≡ checks.Ask
  pub row : k ≡ refusal.Signature
  pub said : verdict_on says t s c ≡ false

-- A step was taken, to this trust and this session.
pub record IsNext (says : Says) (t : Trust) (s : SessionValue) (c : Cert) (t' : Trust) (s' : SessionValue) (what : Imported) : Type 0 where
  pub step : Step t s c.body (verdict_on says t s c) t' s'
  pub sort : what ≡ imported_as (sort_of c.body.template.role)

-- What a certificate is judged to be.
abbrev pub Judges : Says → Trust → SessionValue → Cert → Judged → Type 0
Judges says t s c Held = checked t s c.body ≡ checks.Held
Judges says t s c (Refused k) = (checked t s c.body ≡ checks.Refused k) ⊎ IsUnsigned says t s c k
Judges says t s c (Next t' s' what) = IsNext says t s c t' s' what

-- What stands in the chip after a certificate was judged so: what follows, or what was there.
abbrev pub Stores : Trust → SessionValue → Judged → Trust → SessionValue → Type 0
Stores t s Held t' s' = Stands t s t' s'
Stores t s (Refused k) t' s' = Stands t s t' s'
Stores t s (Next next after what) t' s' = Stands next after t' s'
