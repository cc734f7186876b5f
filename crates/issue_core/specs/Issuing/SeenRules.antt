-- The rules by what was seen of the rows, and by the verdicts (this project's own).
use Rattle.std.specs.Prelude.{◌≡◌, ◌==◌, ◌||◌, ℕ, List, length, Option, Some, None, Result, Ok, Err, Bool, false, not, is_none, if◌then◌else◌, nat_lt, nat_le}
use Rattle.std.specs.List.{list_any}
use Rattle.signature_provider.specs.Provider.{Says, public_key}
use Rattle.cvc_grammar.specs.declared.request.Request.{Request}
use Rattle.cvc_grammar.specs.declared.request.Outer.{Outer}
use Rattle.policy_limits.specs.Validity.{validity, minimum_days}
use Rattle.policy_limits.specs.declared.registration.Registration.{Registration}
use Rattle.policy_limits.specs.declared.registration.First.{First}
use Rattle.keeper.specs.Rows.{most_rows}
use Rattle.issue_core.specs.Issuing.Readings.{request_of, inner_message, outer_message}
use Rattle.issue_core.specs.declared.issuing.signer_row.Signer.{Signer}
use Rattle.issue_core.specs.declared.issuing.voucher_row.Voucher.{Voucher}
use Rattle.issue_core.specs.Issuing.Rules.{Case, Issue, signer, voucher, registered, is_used, live, has_same_holder, differs_from, has_home, first_rule}
use Rattle.issue_core.specs.declared.rule.Rule.{Rule}
use Rattle.issue_core.specs.declared.rule.Rule.TheVariants as rule
use Rattle.issue_core.specs.declared.issuing.seen.Seen.{Seen}
use Rattle.issue_core.specs.declared.issuing.deciding.Grant.{Grant}

-- ---- one test for each of the rules 4 to 12

abbrev pub is_expired_at : ℕ → Option Signer → Bool
is_expired_at day (Some s) = nat_lt s.settled.until day
is_expired_at day None = false

abbrev pub has_other_domain : Request → Option Signer → Bool
has_other_domain r (Some s) = differs_from r s
has_other_domain r None = false

abbrev pub is_outer_missing : First → Option Outer → ℕ → Bool
is_outer_missing first (Some o) held = false
is_outer_missing first None held = has_home first || not (held == 0)

abbrev pub is_outer_unknown : Option Outer → Option Voucher → Bool
is_outer_unknown (Some o) v = is_none v
is_outer_unknown None v = false

abbrev pub is_outer_expired : ℕ → Option Voucher → Bool
is_outer_expired day (Some v) = nat_lt v.until day
is_outer_expired day None = false

abbrev pub is_short : ℕ → Registration → Option Signer → Bool
is_short day g (Some s) = is_none (validity day g.days s.settled.until (minimum_days g.role))
is_short day g None = false

-- ---- the first of them

abbrev pub in_order : (authority expired domain missing unknown outer_expired live short full : Bool) → Option Rule
in_order authority expired domain missing unknown outer_expired live short full =
    if authority then Some rule.Authority
    else (if expired then Some rule.AuthorityExpired
    else (if domain then Some rule.Domain
    else (if missing then Some rule.OuterMissing
    else (if unknown then Some rule.OuterUnknown
    else (if outer_expired then Some rule.OuterExpired
    else (if live then Some rule.LiveLimit
    else (if short then Some rule.Short
    else (if full then Some rule.Full else None))))))))

abbrev pub first_seen : ℕ → Request → Registration → Seen → Option Rule
first_seen day r g seen =
    in_order (is_none seen.signer) (is_expired_at day seen.signer) (has_other_domain r seen.signer)
    (is_outer_missing g.first r.outer seen.held.all) (is_outer_unknown r.outer seen.voucher) (is_outer_expired day seen.voucher)
    (nat_le g.live_limit seen.held.live) (is_short day g seen.signer) (nat_le most_rows seen.count)

-- None of them is broken: this is the row to sign with, and for these days the certificate is valid.
pub record IsGranted (day : ℕ) (r : Request) (g : Registration) (seen : Seen) (s : Signer) (days : ℕ × ℕ) : Type 0 where
  pub unbroken : first_seen day r g seen ≡ None
  pub signer_is : seen.signer ≡ Some s
  pub days_are : validity day g.days s.settled.until (minimum_days g.role) ≡ Some days

-- the first of them that is broken is answered, else what is granted
abbrev pub Decides : (day : ℕ) → Request → Registration → Seen → Result Grant Rule → Type 0
Decides day r g seen (Ok grant) = IsGranted day r g seen grant.signer.now grant.days
Decides day r g seen (Err k) = first_seen day r g seen ≡ Some k

-- ---- the verdicts

abbrev pub inner_says : Says → Request → Bool
inner_says says r = says (public_key r.body.key) (inner_message r) r.inner

abbrev pub outer_says : Says → Request → Outer → Voucher → Bool
outer_says says r o v = says (public_key v.key) (outer_message r o.reference) o.signature

-- the rule 14, by the verdict on the outer signature, where there is one and a row vouches
abbrev pub outer_rule : Says → Request → Option Outer → Option Voucher → Option Rule
outer_rule says r (Some o) (Some v) = if outer_says says r o v then None else Some rule.Outer
outer_rule says r (Some o) None = None
outer_rule says r None v = None

-- the rules 13 and 14
abbrev pub verdict_rule : Says → Request → Option Voucher → Option Rule
verdict_rule says r v = if inner_says says r then outer_rule says r r.outer v else Some rule.Inner

-- ---- a case with its verdicts

abbrev pub outer_said : Says → Request → Option Outer → Option Voucher → Bool
outer_said says r (Some o) (Some v) = outer_says says r o v
outer_said says r (Some o) None = false
outer_said says r None v = false

abbrev pub voucher_for : List Issue → Case → Request → Option Outer → Option Registration → Option Voucher
voucher_for es c r (Some o) (Some g) = voucher es c r g o.reference
voucher_for es c r (Some o) None = None
voucher_for es c r None g = None

-- ---- what was seen agrees with the lists

pub record Agrees (es : List Issue) (c : Case) (r : Request) (g : Registration) (seen : Seen) : Type 0 where
  pub unused : is_used es c r ≡ false
  pub signer_is : seen.signer ≡ signer c r
  pub voucher_is : seen.voucher ≡ voucher_for es c r r.outer (Some g)
  pub held_is : list_any (has_same_holder r) es ≡ not (seen.held.all == 0)
  pub live_is : seen.held.live ≡ live es c r
  pub count_is : seen.count ≡ length es

abbrev pub or_rule : Option Rule → Option Rule → Option Rule
or_rule (Some k) other = Some k
or_rule None other = other

-- then the first rule that is broken is the first by the tests, or else by the verdicts
abbrev pub RulesBySeen : Type 0
RulesBySeen = (said : Says) (es : List Issue) (c : Case) (r : Request) (g : Registration) (seen : Seen) →
    request_of c.bytes ≡ Ok r → registered c r ≡ Some g → g.suspended ≡ false →
    c.inner ≡ inner_says said r → c.outer ≡ outer_said said r r.outer seen.voucher → Agrees es c r g seen →
    first_rule es c ≡ or_rule (first_seen c.day r g seen) (verdict_rule said r seen.voucher)
