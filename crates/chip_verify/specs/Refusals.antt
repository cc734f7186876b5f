-- Whether a chip takes a certificate: who vouches for it, whether it is shown again, and the table of refusals
-- (BSI TR-03110-3, certificate validation; the numbers and the order of the table, and that a link comes only from the
-- newest point and only with a later effective date, are this project's own).
use Rattle.std.specs.Prelude.{◌≡◌, ◌⊎◌, ◌==◌, ◌&&◌, ◌||◌, ℕ, List, [], ◌∷◌, Option, Some, None, Bool, true, false, not, if◌then◌else◌, nat_lt, nat_le, find}
use Rattle.std.specs.Str.{bytes_eq}
use Rattle.eac_base.specs.Bytes.{is_empty}
use Rattle.chat_rights.specs.declared.Kind.{Kind}
use Rattle.chat_rights.specs.declared.Kind.TheVariants.{Inspection}
use Rattle.chat_rights.specs.declared.Role.{Role}
use Rattle.chat_rights.specs.declared.Role.TheVariants.{Cvca, Domestic, Foreign, Terminal}
use Rattle.chat_rights.specs.declared.Template.{Template}
use Rattle.chat_rights.specs.Template.{role_number}
use Rattle.signature_provider.specs.declared.key.Algorithm.{Algorithm}
use Rattle.signature_provider.specs.Key.{is_elliptic, same_algorithm}
use Rattle.signature_provider.specs.Provider.{PublicKey}
use Rattle.cvc_grammar.specs.declared.certificate.CertBody.{CertBody}
use Rattle.chip_verify.specs.declared.trust_point.TrustPoint.{TrustPoint}
use Rattle.chip_verify.specs.declared.session.Verified.{Verified}
use Rattle.chip_verify.specs.declared.answers.ImportRefusal.{ImportRefusal}
use Rattle.chip_verify.specs.declared.answers.ImportRefusal.TheVariants as refusal
use Rattle.chip_verify.specs.declared.answers.Checked.{Checked}
use Rattle.chip_verify.specs.declared.answers.Checked.TheVariants as checks
use Rattle.chip_verify.specs.Trust.{Trust}
use Rattle.chip_verify.specs.Session.{SessionValue}

-- ---- what a certificate is to a chip

-- A link to a new trust point, a verifier's certificate or a terminal's.
pub data Sort : Type 0 where
  Link : Sort
  OfVerifier : Sort
  OfTerminal : Sort

abbrev pub sort_of : Role → Sort
sort_of Cvca = Link
sort_of Domestic = OfVerifier
sort_of Foreign = OfVerifier
sort_of Terminal = OfTerminal

abbrev pub is_link : Sort → Bool
is_link Link = true
is_link OfVerifier = false
is_link OfTerminal = false

-- ---- who vouches for it

pub data Issuer : Type 0 where
  Point : TrustPoint → Issuer
  Verifier : Verified → Issuer

abbrev pub is_point : Issuer → Bool
is_point (Point p) = true
is_point (Verifier v) = false

abbrev pub key_of : Issuer → PublicKey
key_of (Point p) = p.key
key_of (Verifier v) = v.key

abbrev pub until_of : Issuer → ℕ
until_of (Point p) = p.until
until_of (Verifier v) = v.until

abbrev pub template_of : Issuer → Template
template_of (Point p) = p.template
template_of (Verifier v) = v.template

-- The rights of the trust point at the issuer's root.
abbrev pub root_of : Issuer → ℕ
root_of (Point p) = p.template.rights
root_of (Verifier v) = v.root

abbrev pub older_named : Option TrustPoint → List ℕ → Option Issuer
older_named (Some p) reference = if bytes_eq p.reference reference then Some (Point p) else None
older_named None reference = None

abbrev pub verifier_named : Option Verified → List ℕ → Option Issuer
verifier_named (Some v) reference = if bytes_eq v.reference reference then Some (Verifier v) else None
verifier_named None reference = None

abbrev pub or_else : Option Issuer → Option Issuer → Option Issuer
or_else (Some i) other = Some i
or_else None other = other

-- The trust point with this reference, else the session's verifier with it.
abbrev pub issuer_named : Trust → SessionValue → List ℕ → Option Issuer
issuer_named t s reference =
    if bytes_eq t.newest.reference reference then Some (Point t.newest)
    else or_else (older_named t.older reference) (verifier_named s.verifier reference)

abbrev pub issuer_of : Trust → SessionValue → CertBody → Option Issuer
issuer_of t s c = issuer_named t s c.authority

-- ---- the newest point shown again

abbrev pub same_kind : Kind → Kind → Bool
same_kind Inspection Inspection = true

abbrev pub same_template : Template → Template → Bool
same_template a b = same_kind a.kind b.kind && (role_number a.role == role_number b.role) && (a.rights == b.rights)

-- The key's parts are those of the kept key, the domain where there is one.
abbrev pub same_kept_key : Algorithm → List ℕ → List ℕ → PublicKey → Bool
same_kept_key algorithm domain point kept =
    same_algorithm algorithm kept.algorithm && bytes_eq point kept.point && (is_empty domain || bytes_eq domain kept.domain)

-- The certificate is the point's own, by all that a chip keeps of it. Its signature isn't looked at.
abbrev pub is_of : TrustPoint → CertBody → Bool
is_of p c =
    is_link (sort_of c.template.role) && bytes_eq c.holder p.reference && same_template c.template p.template
    && (c.from == p.from) && (c.until == p.until)
    && same_kept_key c.key.algorithm c.key.domain c.key.point p.key

-- The same in plain sight.
pub record IsOwn (p : TrustPoint) (c : CertBody) : Type 0 where
  pub role : c.template.role ≡ Cvca
  pub holder : c.holder ≡ p.reference
  pub template : c.template ≡ p.template
  pub from : c.from ≡ p.from
  pub until : c.until ≡ p.until
  pub algorithm : c.key.algorithm ≡ p.key.algorithm
  pub point : c.key.point ≡ p.key.point
  pub domain : (c.key.domain ≡ []) ⊎ (c.key.domain ≡ p.key.domain)

-- The newest point is shown again.
abbrev pub is_held : Trust → CertBody → Bool
is_held t c = is_of t.newest c

-- ---- the table

-- A point vouches for links and verifiers, a verifier for terminals, and a link is between two references.
abbrev pub wrong_role : CertBody → Issuer → Sort → Bool
wrong_role c i Link = not (is_point i) || bytes_eq c.authority c.holder
wrong_role c i OfVerifier = not (is_point i)
wrong_role c i OfTerminal = is_point i

-- It names a domain, also one that is its issuer's, or has another algorithm.
abbrev pub foreign_key : CertBody → Issuer → Bool
foreign_key c i = not (is_empty c.key.domain) || not (same_algorithm c.key.algorithm (key_of i).algorithm)

-- An elliptic key has no domain of its own, and its issuer's isn't elliptic.
abbrev pub lacks_domain : CertBody → Issuer → Bool
lacks_domain c i = is_elliptic c.key.algorithm && is_empty c.key.domain && not (is_elliptic (key_of i).algorithm)

-- A link may change the key's form.
abbrev pub wrong_key : CertBody → Issuer → Sort → Bool
wrong_key c i Link = lacks_domain c i
wrong_key c i OfVerifier = foreign_key c i
wrong_key c i OfTerminal = foreign_key c i

-- The refusal's row of the table. A missing issuer and the signature are judged elsewhere.
abbrev pub applies : Sort → Trust → CertBody → Issuer → ImportRefusal → Bool
applies sort t c i refusal.NoIssuer = false
applies sort t c i refusal.TypeDiffers = not (same_kind c.template.kind (template_of i).kind)
applies sort t c i refusal.Role = wrong_role c i sort
applies sort t c i refusal.Parameters = wrong_key c i sort
applies sort t c i refusal.IssuerExpired = not (is_link sort) && nat_lt (until_of i) t.day
applies sort t c i refusal.Expired = not (is_link sort) && nat_lt c.until t.day
applies sort t c i refusal.Branch = is_link sort && not (bytes_eq t.newest.reference c.authority)
applies sort t c i refusal.NotLater = is_link sort && nat_le c.from t.newest.from
applies sort t c i refusal.Signature = false

-- The rows in their order.
abbrev pub table : List ImportRefusal
table =
    refusal.TypeDiffers ∷ refusal.Role ∷ refusal.Parameters ∷ refusal.IssuerExpired ∷ refusal.Expired ∷ refusal.Branch
    ∷ refusal.NotLater ∷ []

abbrev pub first_refusal : Sort → Trust → CertBody → Option Issuer → Option ImportRefusal
first_refusal sort t c None = Some refusal.NoIssuer
first_refusal sort t c (Some i) = find (applies sort t c i) table

-- The first refusal of the table that applies, but the signature.
abbrev pub refusal_of : Trust → SessionValue → CertBody → Option ImportRefusal
refusal_of t s c = first_refusal (sort_of c.template.role) t c (issuer_of t s c)

-- ---- what a check answers

abbrev pub refused_or_ask : Option ImportRefusal → Checked
refused_or_ask (Some k) = checks.Refused k
refused_or_ask None = checks.Ask

abbrev pub checked : Trust → SessionValue → CertBody → Checked
checked t s c = if is_held t c then checks.Held else refused_or_ask (refusal_of t s c)

-- ---- the refusals by number

abbrev pub refusal_number : ImportRefusal → ℕ
refusal_number refusal.NoIssuer = 1
refusal_number refusal.TypeDiffers = 2
refusal_number refusal.Role = 3
refusal_number refusal.Parameters = 4
refusal_number refusal.IssuerExpired = 5
refusal_number refusal.Expired = 6
refusal_number refusal.Branch = 7
refusal_number refusal.NotLater = 8
refusal_number refusal.Signature = 9
