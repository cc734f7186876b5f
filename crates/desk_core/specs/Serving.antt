-- What a desk does with a call, one record for each kind of service (after BSI TR-03129). Each ties together what keeper and
-- provider tell before and after the call, what came of it, and the reply, for whose want of memory alone there is none.
use Rattle.std.specs.Prelude.{◌≡◌, ℕ, List, [], Option, Some, Result, IfOk}
use Rattle.eac_base.specs.Telling.{Told}
use Rattle.eac_base.specs.declared.failures.NoMemory.{NoMemory}
use Rattle.signature_provider.specs.declared.provider.SignatureProvider.{Ghosts as ProviderOf}
use Rattle.policy_limits.specs.Setup.{SetupValue}
use Rattle.keeper.specs.declared.rows.Row.{Row}
use Rattle.keeper.specs.declared.keeping.Keeper.{Ghosts as KeeperOf}
use Rattle.issue_core.specs.Issuing.Rows.{AreReadable}
use Rattle.issue_core.specs.Issuing.Calls.{Serves, case_of, bare_case, outcome_of}
use Rattle.issue_core.specs.Issuing.Signed.{SignsServed}
use Rattle.issue_core.specs.Issuing.Causes.{IssueCause, StaysTrue}
use Rattle.issue_core.specs.Issuing.AnswerCauses.{Answered}
use Rattle.issue_core.specs.Issuing.ProviderCalls.{Standing, standing, MissesKey, CallsProvider}
use Rattle.issue_core.specs.declared.fault.IssueFault.{IssueFault}
use Rattle.issue_core.specs.declared.issuing.serving.Answer.{Answer}
use Rattle.holder_core.specs.Faults.{HolderCause, KeeperCaused, NoneMissing}
use Rattle.holder_core.specs.Receiving.{Receives, ReceivedAsked, Question, ending}
use Rattle.holder_core.specs.declared.fault.HolderFault.{HolderFault}
use Rattle.holder_core.specs.declared.received.Received.{Received}
use Rattle.desk_core.specs.Replies.{request_served, list_served, received_served, declined}
use Rattle.desk_core.specs.declared.served.Served.{Served}

-- ---- what is known at a moment

-- of a keeper: its rows, where it tells them, and how often it has failed
pub record Kept : Type 0 where
  pub rows : Option (List Row)
  pub faults : ℕ

abbrev pub kept : {B : Type 0} → KeeperOf B → B → Kept
kept B keeper = record { rows = B.rows keeper; faults = B.faults keeper }

-- of keeper and provider
pub record Moment : Type 0 where
  pub keeper : Kept
  pub provider : Standing

abbrev pub moment : {B P : Type 0} → KeeperOf B → ProviderOf P → B → P → Moment
moment B P keeper provider = record {
  keeper = kept B keeper;
  provider = standing (P.says provider) (P.holds provider) (P.signed provider) (P.faults provider);
}

-- ---- the services

-- A request for a certificate, issued as `issue` does it: on told rows that were readable one delivery of the desk's story,
-- and what was signed in it; whether they are told or not, each answer and fault has its cause, and the provider is asked
-- for what is due alone.
pub record RequestServed (setup : SetupValue) (desk day : ℕ) (id bytes : List ℕ) (was now : Moment) (result : Result Served NoMemory)
    : Type 0 where
  pub issued : Result Answer IssueFault
  pub reply : IfOk result (λ served. request_served id bytes issued ≡ Some served)
  pub delivery : Told was.keeper.rows now.keeper.rows (λ before after. AreReadable before →
      Serves now.provider.says was.provider.holds (case_of was.provider.says setup desk day bytes before) (outcome_of issued)
      (was.keeper.faults, now.keeper.faults) (was.provider.faults, now.provider.faults) before after)
  pub signed : Told was.keeper.rows now.keeper.rows (λ before after. AreReadable before →
      SignsServed (case_of was.provider.says setup desk day bytes before) (outcome_of issued)
      (was.provider.signed, now.provider.signed) before after)
  pub answered : Answered was.provider.says now.provider.says was.provider.holds (bare_case setup desk day bytes []) issued
  pub cause : IssueCause (MissesKey was.provider.says was.provider.holds (bare_case setup desk day bytes []))
      (was.keeper.faults, now.keeper.faults) (was.provider.faults, now.provider.faults) issued
  pub called : CallsProvider was.provider.says (bare_case setup desk day bytes []) was.provider now.provider issued
  pub provider : StaysTrue was.provider.says now.provider.says was.provider.holds now.provider.holds
      was.provider.signed now.provider.signed

-- A question for certificates: on told rows the list that is due by them, for every keeper one that is due by some rows as
-- they were asked for. No row changes. The provider isn't asked.
pub record ListServed (id : List ℕ) (due : List Row → List (List ℕ)) (IsAsked : List (List ℕ) → Type 0) (was now : Kept)
    (result : Result Served NoMemory) : Type 0 where
  pub listed : Result (List (List ℕ)) HolderFault
  pub reply : IfOk result (λ served. list_served id listed ≡ Some served)
  pub told : Told was.rows now.rows (λ before after. (after ≡ before) × IfOk listed (λ list. list ≡ due before))
  pub asked : IfOk listed IsAsked
  pub cause : KeeperCaused was.faults now.faults listed

-- Certificates that come in, taken as `receive` does it. The provider is asked for verdicts alone.
pub record ReceiptServed (desk : ℕ) (id : List ℕ) (certificates : List (List ℕ)) (was now : Moment) (result : Result Served NoMemory)
    : Type 0 where
  pub received : Received
  pub reply : IfOk result (λ served. received_served id received ≡ Some served)
  pub told : Told was.keeper.rows now.keeper.rows (λ before after. (asked : List Question) ×
      Receives was.provider.says desk certificates before after received.items received.fault asked)
  pub answered : ReceivedAsked was.provider.says desk certificates received.items received.fault
  pub cause : HolderCause NoneMissing (was.keeper.faults, now.keeper.faults) (was.provider.faults, now.provider.faults)
      (ending received.fault)
  pub says : now.provider.says ≡ was.provider.says
  pub holds : now.provider.holds ≡ was.provider.holds
  pub signed : now.provider.signed ≡ was.provider.signed

-- A call that the party doesn't serve: neither keeper nor provider is asked.
pub record CallDeclined (id : List ℕ) (was now : Moment) (result : Result Served NoMemory) : Type 0 where
  pub reply : IfOk result (λ served. served ≡ declined id)
  pub unasked : now ≡ was
