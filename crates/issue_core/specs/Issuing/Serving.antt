-- What each step of a call of an issuing desk owes: by what is known before it, where the rows are told, and for every
-- keeper (this project's own).
use Rattle.std.specs.Prelude.{◌≡◌, ℕ, List, [], Option, Ok, Result}
use Rattle.eac_base.specs.Telling.{Told}
use Rattle.signature_provider.specs.Provider.{Says}
use Rattle.cvc_grammar.specs.declared.request.Request.{Request}
use Rattle.policy_limits.specs.declared.registration.Registration.{Registration}
use Rattle.keeper.specs.declared.rows.Row.{Row}
use Rattle.issue_core.specs.declared.fault.IssueFault.{IssueFault}
use Rattle.issue_core.specs.declared.issuing.signer_row.Signer.{Signer}
use Rattle.issue_core.specs.declared.issuing.seen.Seen.{Seen}
use Rattle.issue_core.specs.declared.issuing.serving.Answer.{Answer}
use Rattle.issue_core.specs.declared.issuing.serving.Call.{Call}
use Rattle.issue_core.specs.Issuing.Readings.{request_of}
use Rattle.issue_core.specs.Issuing.Rules.{Case}
use Rattle.issue_core.specs.Issuing.SeenRules.{IsGranted}
use Rattle.issue_core.specs.Issuing.Calls.{IsCaseOf, case_of, bare_case, outcome_of}
use Rattle.issue_core.specs.Issuing.AnswerCauses.{IsAdmitted, HasSeen, MayMake}
use Rattle.issue_core.specs.Issuing.Signed.{Delivers}
use Rattle.issue_core.specs.Issuing.ProviderCalls.{Standing, OwesAsking, OwesAll}
use Rattle.issue_core.specs.Issuing.Steps.{Ready, Passed, Looked, Fresh, WasRead, ByLists}

-- What stood before a step and after it: the keeper's rows, where it tells them, its count of faults, and the provider.
pub record Span : Type 0 where
  pub rows : Option (List Row) × Option (List Row)
  pub faults : ℕ × ℕ
  pub was : Standing
  pub now : Standing

abbrev pub span : Option (List Row) × Option (List Row) → ℕ × ℕ → (was now : Standing) → Span
span rows faults was now = record { rows = rows; faults = faults; was = was; now = now }

-- what a step made of this case, from these rows to those
abbrev pub Delivered : Span → Result Answer IssueFault → Case → (before after : List Row) → Type 0
Delivered s result c before after =
    Delivers s.now.says s.was.holds (s.was.signed, s.now.signed) c (outcome_of result) s.faults (s.was.faults, s.now.faults) before after

-- Where the rows are told and this is known of them, the step was the rest of a delivery. For every keeper this is owed.
pub record Served (call : Call) (s : Span) (result : Result Answer IssueFault) (knows : Case → List Row → Type 0) (owed : Case → Type 0) : Type 0 where
  pub told : Told s.rows.0 s.rows.1 (λ before after. (c : Case) → IsCaseOf c call → knows c before → Delivered s result c before after)
  pub any : (c : Case) → IsCaseOf c call → owed c

-- ---- the steps, the last one first

-- a certificate may be made
abbrev pub ServesReady : Call → Request → Registration → Signer → ℕ × ℕ → Span → Result Answer IssueFault → Type 0
ServesReady call r g signer days s result =
    Served call s result (λ c rows. Ready c r g signer days rows)
    (λ c. (said : Says) → MayMake said c r g signer days → OwesAsking said c s.faults s.was s.now result)

-- no rule up to 12 is broken
abbrev pub ServesGranted : Call → Request → Registration → Seen → Signer → ℕ × ℕ → Span → Result Answer IssueFault → Type 0
ServesGranted call r g seen signer days s result =
    Served call s result (λ c rows. Passed s.was.says c r g seen signer days rows)
    (λ c. HasSeen c r g seen → IsGranted call.day r g seen signer days → OwesAsking s.was.says c s.faults s.was s.now result)

-- the holder is registered, and its number is new
abbrev pub ServesRegistered : Call → Request → Registration → Span → Result Answer IssueFault → Type 0
ServesRegistered call r g s result =
    Served call s result (λ c rows. Looked s.was.says c r g rows)
    (λ c. IsAdmitted c r g → OwesAll s.was.says c s.faults s.was s.now result)

-- the request's number is new
abbrev pub ServesNew : Call → Request → Span → Result Answer IssueFault → Type 0
ServesNew call r s result =
    Served call s result (λ c rows. Fresh s.was.says c r rows)
    (λ c. request_of call.bytes.now ≡ Ok r → OwesAll s.was.says c s.faults s.was s.now result)

-- the request was read
abbrev pub ServesRead : Call → Request → Span → Result Answer IssueFault → Type 0
ServesRead call r s result =
    Served call s result (λ c rows. WasRead s.was.says c r rows)
    (λ c. request_of call.bytes.now ≡ Ok r → OwesAll s.was.says c s.faults s.was s.now result)

-- The whole call. What is owed of the lists stands in `ByLists`, in which no call is named.
pub record ServesCall (call : Call) (s : Span) (result : Result Answer IssueFault) : Type 0 where
  pub told : Told s.rows.0 s.rows.1 (λ before after. let c : Case = case_of s.was.says call.setup.now call.desk call.day call.bytes.now before in
      ByLists s.was.says c before → Delivered s result c before after)
  pub any : OwesAll s.was.says (bare_case call.setup.now call.desk call.day call.bytes.now []) s.faults s.was s.now result
