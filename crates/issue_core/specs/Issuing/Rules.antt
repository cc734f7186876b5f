-- The rules of an issuing desk, in their order (after BSI TR-03129 and TR-03139; the numbers are this project's own).
use Rattle.std.specs.Prelude.{◌==◌, ◌&&◌, ◌||◌, ℕ, List, [], ◌∷◌, length, Option, Some, None, Result, Ok, Err, Bool, true, false, not, is_none, if◌then◌else◌, nat_lt, nat_le, find, count_by, filter_map}
use Rattle.std.specs.List.{list_any}
use Rattle.std.specs.Str.{bytes_eq}
use Rattle.holder_reference.specs.Reference.{holder_part}
use Rattle.signature_provider.specs.declared.key.Key.{Key}
use Rattle.cvc_grammar.specs.declared.request.Request.{Request}
use Rattle.cvc_grammar.specs.declared.request.Outer.{Outer}
use Rattle.cvc_grammar.specs.declared.certificate.CertBody.{CertBody}
use Rattle.cvc_grammar.specs.declared.refusal.CvcRefusal.{CvcRefusal}
use Rattle.policy_limits.specs.Setup.{SetupValue, registration}
use Rattle.policy_limits.specs.Validity.{validity, minimum_days}
use Rattle.policy_limits.specs.declared.registration.Registration.{Registration}
use Rattle.policy_limits.specs.declared.registration.First.{First}
use Rattle.policy_limits.specs.declared.registration.First.TheVariants.{Bare, Home}
use Rattle.keeper.specs.declared.rows.Row.{Row}
use Rattle.keeper.specs.declared.rows.Part.{Part}
use Rattle.keeper.specs.declared.rows.Part.TheVariants.{Register, Issued, Own, Ca}
use Rattle.keeper.specs.declared.rows.Settled.{Settled}
use Rattle.keeper.specs.Rows.{most_rows}
use Rattle.issue_core.specs.declared.issuing.signer_row.Signer.{Signer}
use Rattle.issue_core.specs.declared.issuing.voucher_row.Voucher.{Voucher}
use Rattle.issue_core.specs.declared.rule.Rule.{Rule}
use Rattle.issue_core.specs.declared.rule.Rule.TheVariants as rule
use Rattle.issue_core.specs.Issuing.Readings.{request_of, number_of}

-- ---- the case

-- All that a request is decided by, but the entries: the parties and registrations, the desk with its own rows and its
-- rows of other authorities, the day, the bytes, and what the provider says of the two signatures.
pub record Case : Type 0 where
  pub setup : SetupValue
  pub desk : ℕ
  pub own : List Row
  pub cas : List Row
  pub day : ℕ
  pub bytes : List ℕ
  pub inner : Bool
  pub outer : Bool

-- an entry as the rules see it: the request's bytes, and the certificate's body
abbrev pub Issue : Type 0
Issue = List ℕ × Option CertBody

abbrev pub registered : Case → Request → Option Registration
registered c r = registration c.setup c.desk (holder_part r.body.holder)

-- ---- the row that signs

abbrev pub settled_as : List ℕ → Key → Option Settled → Option Signer
settled_as reference key (Some s) = Some (record { reference = reference; key = key; settled = s })
settled_as reference key None = None

abbrev pub signer_of : List ℕ → Part → Option Signer
signer_of reference (Own p) = settled_as reference p.key p.settled
signer_of reference (Register r d) = None
signer_of reference (Issued p) = None
signer_of reference (Ca p) = None

abbrev pub signers : List Row → List Signer
signers rows = filter_map (λ r. signer_of r.reference r.part) rows

-- the one with the greatest effective date, among equals the last
abbrev pub newer : Signer → Option Signer → Signer
newer s (Some t) = if nat_lt t.settled.from s.settled.from then s else t
newer s None = s

abbrev pub newest : List Signer → Option Signer
newest [] = None
newest (s ∷ ss) = Some (newer s (newest ss))

-- the settled own row that the request names, else the newest
abbrev pub named : Option (List ℕ) → List Signer → Option Signer
named (Some reference) ss = find (λ s. bytes_eq s.reference reference) ss
named None ss = newest ss

abbrev pub signer : Case → Request → Option Signer
signer c r = named r.body.authority (signers c.own)

-- ---- the holder's entries

abbrev pub has_same_holder : Request → Issue → Bool
has_same_holder r e = bytes_eq (holder_part (number_of e.0)) (holder_part r.body.holder)

abbrev pub has_expired : ℕ → Option CertBody → Bool
has_expired day (Some body) = nat_lt body.until day
has_expired day None = true

-- ---- the row that vouches for an outer signature

-- the registration names this authority certificate as the holder's home
abbrev pub is_home : First → List ℕ → Bool
is_home (Home reference) other = bytes_eq reference other
is_home Bare other = false

abbrev pub has_home : First → Bool
has_home (Home reference) = true
has_home Bare = false

abbrev pub issued_voucher : Result Request CvcRefusal → Option CertBody → Option Voucher
issued_voucher (Ok q) (Some body) = Some (record { key = q.body.key; until = body.until })
issued_voucher (Ok q) None = None
issued_voucher (Err e) body = None

-- an entry of this holder: its key is the request's, with domain and cofactor
abbrev pub first_issued : List Issue → Request → List ℕ → Option Voucher
first_issued [] r reference = None
first_issued (e ∷ es) r reference =
    if has_same_holder r e && bytes_eq (number_of e.0) reference then issued_voucher (request_of e.0) e.1
    else first_issued es r reference

abbrev pub ca_voucher : Part → Option Voucher
ca_voucher (Ca p) = Some (record { key = p.key; until = p.settled.until })
ca_voucher (Own p) = None
ca_voucher (Register r d) = None
ca_voucher (Issued p) = None

abbrev pub or_else : Option Voucher → Option Voucher → Option Voucher
or_else (Some v) other = Some v
or_else None other = other

abbrev pub first_ca : List Row → List ℕ → Option Voucher
first_ca [] reference = None
first_ca (row ∷ rows) reference =
    or_else (if bytes_eq row.reference reference then ca_voucher row.part else None) (first_ca rows reference)

-- an entry of this holder, else the home authority's certificate
abbrev pub voucher : List Issue → Case → Request → Registration → List ℕ → Option Voucher
voucher es c r g reference =
    or_else (first_issued es r reference) (if is_home g.first reference then first_ca c.cas reference else None)

-- ---- whether a rule is broken

abbrev pub not_registered : Option Registration → Bool
not_registered (Some g) = g.suspended
not_registered None = true

abbrev pub with_signer : (Signer → Bool) → Option Signer → Bool
with_signer p (Some s) = p s
with_signer p None = false

abbrev pub with_voucher : (Voucher → Bool) → Option Voucher → Bool
with_voucher p (Some v) = p v
with_voucher p None = false

-- the request's algorithm or domain differs from that of the key that signs
abbrev pub differs_from : Request → Signer → Bool
differs_from r s =
    not ((r.body.key.algorithm.arc == s.key.algorithm.arc) && (r.body.key.algorithm.last == s.key.algorithm.last) && bytes_eq r.body.key.domain s.key.domain)

module _ (es : List Issue) (c : Case) (r : Request) where
  -- the number stands with other bytes
  abbrev pub is_used : Bool
  is_used = list_any (λ e. bytes_eq (number_of e.0) r.body.holder && not (bytes_eq e.0 c.bytes)) es

  -- how many certificates of the holder haven't expired
  abbrev pub live : ℕ
  live = count_by (λ e. has_same_holder r e && not (has_expired c.day e.1)) es

  abbrev pub outer_missing : Option Outer → Registration → Bool
  outer_missing (Some o) g = false
  outer_missing None g = has_home g.first || list_any (has_same_holder r) es

  abbrev pub outer_unknown : Option Outer → Registration → Bool
  outer_unknown (Some o) g = is_none (voucher es c r g o.reference)
  outer_unknown None g = false

  abbrev pub outer_known : (Voucher → Bool) → Option Outer → Registration → Bool
  outer_known p (Some o) g = with_voucher p (voucher es c r g o.reference)
  outer_known p None g = false

  -- the rules that look at the registration
  abbrev pub breaks : Rule → Registration → Bool
  breaks rule.Authority g = is_none (signer c r)
  breaks rule.AuthorityExpired g = with_signer (λ s. nat_lt s.settled.until c.day) (signer c r)
  breaks rule.Domain g = with_signer (differs_from r) (signer c r)
  breaks rule.OuterMissing g = outer_missing r.outer g
  breaks rule.OuterUnknown g = outer_unknown r.outer g
  breaks rule.OuterExpired g = outer_known (λ v. nat_lt v.until c.day) r.outer g
  breaks rule.LiveLimit g = nat_le g.live_limit live
  breaks rule.Short g = with_signer (λ s. is_none (validity c.day g.days s.settled.until (minimum_days g.role))) (signer c r)
  breaks rule.Full g = nat_le most_rows (length es)
  breaks rule.Inner g = not c.inner
  breaks rule.Outer g = outer_known (λ v. not c.outer) r.outer g
  breaks rule.Used g = is_used
  breaks rule.Holder g = g.suspended
  breaks (rule.Syntax e) g = false

  abbrev pub is_broken : Rule → Option Registration → Bool
  is_broken rule.Used g = is_used
  is_broken rule.Holder g = not_registered g
  is_broken k (Some g) = breaks k g
  is_broken k None = false

-- ---- the first rule that is broken

-- the rules after the reading of the request
abbrev pub rules : List Rule
rules =
    rule.Used ∷ rule.Holder ∷ rule.Authority ∷ rule.AuthorityExpired ∷ rule.Domain ∷ rule.OuterMissing ∷ rule.OuterUnknown
    ∷ rule.OuterExpired ∷ rule.LiveLimit ∷ rule.Short ∷ rule.Full ∷ rule.Inner ∷ rule.Outer ∷ []

abbrev pub first_of : Result Request CvcRefusal → List Issue → Case → Option Rule
first_of (Err e) es c = Some (rule.Syntax e)
first_of (Ok r) es c = find (λ k. is_broken es c r k (registered c r)) rules

abbrev pub first_rule : List Issue → Case → Option Rule
first_rule es c = first_of (request_of c.bytes) es c
