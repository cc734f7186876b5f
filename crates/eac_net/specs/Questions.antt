-- What a provider may be asked about a request at an issuing desk, and about certificates that come (this project's
-- own).
use Rattle.std.specs.Prelude.{◌≡◌, Contains, ℕ, List, [], ◌∷◌, Option, Some, None, Result, Ok, Err}
use Rattle.signature_provider.specs.Provider.{public_key}
use Rattle.cvc_grammar.specs.declared.certificate.Cert.{Cert}
use Rattle.cvc_grammar.specs.declared.request.Request.{Request}
use Rattle.cvc_grammar.specs.declared.request.Outer.{Outer}
use Rattle.cvc_grammar.specs.declared.refusal.CvcRefusal.{CvcRefusal}
use Rattle.policy_limits.specs.Setup.{SetupValue}
use Rattle.keeper.specs.declared.rows.Row.{Row}
use Rattle.ledger.specs.Ledger.{faces}
use Rattle.issue_core.specs.declared.issuing.voucher_row.Voucher.{Voucher}
use Rattle.issue_core.specs.Issuing.Calls.{bare_case}
use Rattle.issue_core.specs.Issuing.Desk.{issuing}
use Rattle.issue_core.specs.Issuing.Readings.{request_of, inner_message, outer_message}
use Rattle.issue_core.specs.Issuing.Rows.{entries_at}
use Rattle.issue_core.specs.Issuing.Rules.{Case, Issue, registered}
use Rattle.issue_core.specs.Issuing.SeenRules.{voucher_for}
use Rattle.holder_core.specs.Readings.{cert_of, cert_message}
use Rattle.holder_core.specs.Receiving.{Question}

-- ---- the questions that there are, whether a rule before them is broken or not

abbrev pub inner_question : Request → Question
inner_question r = record { key = public_key r.body.key; message = inner_message r; signature = r.inner }

-- where a row vouches for the outer signature
abbrev pub outer_questions : Request → Option Outer → Option Voucher → List Question
outer_questions r (Some o) (Some v) =
    record { key = public_key v.key; message = outer_message r o.reference; signature = o.signature } ∷ []
outer_questions r (Some o) None = []
outer_questions r None v = []

abbrev pub read_questions : List Issue → Case → Result Request CvcRefusal → List Question
read_questions es c (Ok r) =
    inner_question r ∷ outer_questions r r.outer (voucher_for es c r r.outer (registered c r))
read_questions es c (Err e) = []

-- of a request at a desk on a day, by these rows
abbrev pub request_questions : SetupValue → (desk day : ℕ) → List ℕ → List Row → List Question
request_questions setup desk day request rows =
    read_questions (faces issuing (entries_at desk rows)) (bare_case setup desk day request rows) (request_of request)

-- ---- the signature of one of these certificates, over its body

pub record IsAbout (certificates : List (List ℕ)) (q : Question) : Type 0 where
  pub bytes : List ℕ
  pub cert : Cert
  pub among : Contains certificates bytes
  pub read : cert_of bytes ≡ Ok cert
  pub message : q.message ≡ cert_message cert.body
  pub signature : q.signature ≡ cert.signature
