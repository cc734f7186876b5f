-- Packets that come to their parties (after BSI TR-03129; what is told of them is this project's own).
use Rattle.std.specs.Prelude.{◌≡◌, ◌⊎◌, ℕ, ◌<◌, List, [], ◌∷◌, ◌++◌, Option, Some, None, Result, IfOk}
use Rattle.std.specs.List.{All}
use Rattle.keeper.specs.declared.rows.Row.{Row}
use Rattle.policy_limits.specs.Setup.{SetupValue}
use Rattle.ledger.specs.Ledger.{Outcome, Issued, Kept, Refused, Faulted, NoMemory}
use Rattle.issue_core.specs.declared.rule.Rule.{Rule}
use Rattle.issue_core.specs.declared.fault.IssueFault.{IssueFault}
use Rattle.issue_core.specs.declared.issuing.serving.Answer.{Answer as Issuance}
use Rattle.issue_core.specs.Issuing.AnswerCauses.{Answered}
use Rattle.issue_core.specs.Issuing.Calls.{Serves, case_of, bare_case, outcome_of, delivery, is_held}
use Rattle.issue_core.specs.Issuing.Causes.{IssueCause}
use Rattle.issue_core.specs.Issuing.Desk.{Fault, KeeperFailed, ProviderFailed, KeyMissing}
use Rattle.issue_core.specs.Issuing.ProviderCalls.{standing, MissesKey, CallsProvider}
use Rattle.issue_core.specs.Issuing.Rules.{Case}
use Rattle.issue_core.specs.Issuing.Signed.{IsDuePair}
use Rattle.holder_core.specs.Faults.{HolderCause, NoneMissing}
use Rattle.holder_core.specs.Receiving.{Receives, ReceivedAsked, Question, ending}
use Rattle.holder_core.specs.declared.fault.HolderFault.{HolderFault}
use Rattle.holder_core.specs.declared.received.Received.{Received}
use Rattle.desk_core.specs.Replies.{request_served, list_served, received_served, declined}
use Rattle.desk_core.specs.declared.served.Served.{Served}
use Rattle.eac_net.specs.Arrival.{Arrival, NotSent, NoCall, AsksCertificate, AsksList, Brings, IsDeclined, NoReply, BringsBack, Notes, arrival}
use Rattle.eac_net.specs.Delivered.{served_answer, served_sent, unread_reply, took_answer}
use Rattle.eac_net.specs.Ending.{Ends, Idles, KeeperActs, MovesOnly}
use Rattle.eac_net.specs.Losing.{Losing, Fate, IsKept, IsLost, IsDropped, Loses}
use Rattle.eac_net.specs.Moment.{Meanings, IsStill}
use Rattle.eac_net.specs.Packets.{next_number, packet_at, reply_to}
use Rattle.eac_net.specs.Pushing.{list_due, ListAsked}
use Rattle.eac_net.specs.Questions.{request_questions, IsAbout}
use Rattle.eac_net.specs.State.{State, Standing, standing_of, moved, with_delivery}
use Rattle.eac_net.specs.Verdicts.{Verdict, verdicts_on}
use Rattle.eac_net.specs.declared.answer.Answer.{Answer}
use Rattle.eac_net.specs.declared.answer.Answer.TheVariants as answers
use Rattle.eac_net.specs.declared.answer.Replied.TheVariants as replied
use Rattle.eac_net.specs.declared.packet.Packet.{Packet}

-- packets are numbered from 1
abbrev pub DeliverFits : ℕ → Type 0
DeliverFits number = 0 < number

-- what becomes of a pair that a desk signed
abbrev pub fate_by : Outcome (List ℕ) Rule Fault → Fate
fate_by (Issued p) = IsKept
fate_by (Kept p) = IsKept
fate_by (Refused k) = IsKept
fate_by (Faulted KeeperFailed) = IsLost
fate_by (Faulted ProviderFailed) = IsKept
fate_by (Faulted (KeyMissing reference)) = IsKept
fate_by NoMemory = IsDropped

-- ---- how a packet's coming ends

module _ (s : Standing) (answer : Option Answer) (s' : Standing) where
  -- certificates
  pub record TakesAll (said : Received → Option Answer) (sent : Received → List Packet) (Does : Received → Type 0)
      : Type 0 where
    pub received : Received
    pub does : Does received
    pub cause : HolderCause NoneMissing (s.keeper, s'.keeper) (s.provider, s'.provider) (ending received.fault)
    pub ends : Ends s answer s' (said received) (sent received)

  -- those of a reply aren't replied to
  abbrev pub TakesBack : (Received → Type 0) → Type 0
  TakesBack Does = TakesAll (λ r. took_answer r.fault r) (λ r. []) Does

module _ (p : Packet) (s : Standing) (answer : Option Answer) (s' : Standing) where
  -- a call that was served so, with its reply
  abbrev pub EndsServed : Option Served → Type 0
  EndsServed due = Ends s answer s' (served_answer (next_number s.packets) due) (served_sent p due)

  -- A request: what was issued is answered. Want of memory is an outcome of the delivery, or comes behind it.
  pub record Issues (id request : List ℕ) (misses : List ℕ → Type 0) (Does : Result Issuance IssueFault → Type 0)
      : Type 0 where
    pub issued : Result Issuance IssueFault
    pub does : Does issued
    pub cause : IssueCause misses (s.keeper, s'.keeper) (s.provider, s'.provider) issued
    pub ends : EndsServed (request_served id request issued)

  -- a list
  abbrev pub HandsOut : List ℕ → (Result (List (List ℕ)) HolderFault → Type 0) → Type 0
  HandsOut id Does = KeeperActs s answer s' (λ result. served_answer (next_number s.packets) (list_served id result))
      (λ result. served_sent p (list_served id result)) Does

  -- certificates of a call are replied to
  abbrev pub TakesCalled : List ℕ → (Received → Type 0) → Type 0
  TakesCalled id Does = TakesAll s answer s' (λ r. served_answer (next_number s.packets) (received_served id r))
      (λ r. served_sent p (received_served id r)) Does

  -- no party has to do anything
  abbrev pub IsUnread : Type 0
  IsUnread = Idles s answer s' (Some (answers.Called None (next_number s.packets))) (reply_to p unread_reply ∷ [])

  abbrev pub Declines : List ℕ → Type 0
  Declines id = Idles s answer s' (served_answer (next_number s.packets) (Some (declined id)))
      (served_sent p (Some (declined id)))

-- ---- over rows

module _ (setup : SetupValue) (m : Meanings) (s : State) where
  abbrev pub case_at : (desk day : ℕ) → List ℕ → Case
  case_at desk day request = case_of m.said setup desk day request s.rows

  -- A request came: one delivery to the desk, with its issued rows as the ledger before it, and what the provider says
  -- of its signatures.
  pub record RequestTurn (p : Packet) (id request : List ℕ) (answer : Option Answer) (s' : State) : Type 0 where
    pub day : ℕ
    pub today : s.day ≡ Some day
    pub rows : List Row
    pub now : Standing
    pub event : Issues p (standing_of s) answer now id request
        (MissesKey m.said m.held (bare_case setup p.to day request []))
        (λ issued. Serves m.says m.held (case_at p.to day request) (outcome_of issued) (s.keeper, now.keeper)
        (s.provider, now.provider) s.rows rows)
    pub losing : Losing
    pub loses : Loses (IsDuePair (case_at p.to day request) s.rows) (fate_by (outcome_of event.issued)) losing
    pub next : s' ≡ record (moved s now rows) {
      desks = with_delivery s.desks p.to (delivery (case_at p.to day request) (outcome_of event.issued) event.does.left
          (s.keeper, now.keeper) (s.provider, now.provider) (is_held m.held (case_at p.to day request)));
      verdicts = s.verdicts ++ verdicts_on m.said (request_questions setup p.to day request s.rows);
      lost = s.lost ++ losing.lost;
      dropped = s.dropped ++ losing.dropped;
    }

  -- Certificates came.
  pub record ReceiptTurn (E : Standing → (Received → Type 0) → Type 0) (party : ℕ) (certificates : List (List ℕ))
      (s' : State) : Type 0 where
    pub rows : List Row
    pub now : Standing
    pub asked : List Question
    pub event : E now (λ r. Receives m.said party certificates s.rows rows r.items r.fault asked)
    pub next : s' ≡ record (moved s now rows) { verdicts = s.verdicts ++ verdicts_on m.said asked }

  -- By what the packet is. Where none has that number, there is nothing to read.
  abbrev pub Arrives : Option Packet → Arrival → Option Answer → State → Type 0
  Arrives (Some p) (AsksCertificate id request) answer s' = RequestTurn p id request answer s'
  Arrives (Some p) (AsksList id) answer s' = MovesOnly s (λ now. HandsOut p (standing_of s) answer now id
      (λ result. IfOk result (λ list. list ≡ list_due setup p.to s.rows))) s'
  Arrives (Some p) (Brings id certificates) answer s' =
      ReceiptTurn (λ now. TakesCalled p (standing_of s) answer now id) p.to certificates s'
  Arrives (Some p) (BringsBack certificates) answer s' =
      ReceiptTurn (λ now. TakesBack (standing_of s) answer now) p.to certificates s'
  Arrives (Some p) NoCall answer s' = MovesOnly s (λ now. IsUnread p (standing_of s) answer now) s'
  Arrives (Some p) (IsDeclined id) answer s' = MovesOnly s (λ now. Declines p (standing_of s) answer now id) s'
  Arrives (Some p) NoReply answer s' =
      MovesOnly s (λ now. Idles (standing_of s) answer now (Some (answers.Replied replied.Malformed)) []) s'
  Arrives (Some p) (Notes code) answer s' =
      MovesOnly s (λ now. Idles (standing_of s) answer now (Some (answers.Replied (replied.Noted code))) []) s'
  Arrives (Some p) NotSent answer s' = ⊥
  Arrives None came answer s' = MovesOnly s (λ now. Idles (standing_of s) answer now (Some answers.Unsent) []) s'

  -- or memory was wanting for the reading, and nothing was done
  abbrev pub Nothing : Option Answer → State → Type 0
  Nothing answer s' = (answer ≡ None) × (s' ≡ s)

  abbrev pub DeliverTurn : ℕ → Option Answer → State → Type 0
  DeliverTurn number answer s' = Nothing answer s'
      ⊎ Arrives (packet_at s.packets number) (arrival setup (packet_at s.packets number)) answer s'

-- ---- whatever is told

module _ (setup : SetupValue) (m : Meanings) (s : Standing) (answer : Option Answer) (asked : List Verdict)
    (s' : Standing) where
  pub record Unasked (E : Type 0) : Type 0 where
    pub none : asked ≡ []
    pub still : IsStill m
    pub event : E

  -- The provider is asked for what is due alone. What is known of its words is about this request, by some rows.
  pub record RequestAnswers (p : Packet) (id request : List ℕ) : Type 0 where
    pub day : ℕ
    pub today : s.day ≡ Some day
    pub event : Issues p s answer s' id request (MissesKey m.said m.held (bare_case setup p.to day request []))
        (Answered m.said m.says m.held (bare_case setup p.to day request []))
    pub called : CallsProvider m.said (bare_case setup p.to day request [])
        (standing m.said m.held m.signed.0 s.provider) (standing m.says m.holds m.signed.1 s'.provider) event.issued
    pub rows : List Row
    pub asked_are : asked ≡ verdicts_on m.said (request_questions setup p.to day request rows)

  -- It is asked about these certificates alone, and makes and signs nothing.
  pub record ReceiptAnswers (E : (Received → Type 0) → Type 0) (party : ℕ) (certificates : List (List ℕ)) : Type 0 where
    pub still : IsStill m
    pub event : E (λ r. ReceivedAsked m.said party certificates r.items r.fault)
    pub asked_are : All (λ v. IsAbout certificates v.question) asked

  abbrev pub ArrivesSo : Option Packet → Arrival → Type 0
  ArrivesSo (Some p) (AsksCertificate id request) = RequestAnswers p id request
  ArrivesSo (Some p) (AsksList id) =
      Unasked (HandsOut p s answer s' id (λ result. IfOk result (ListAsked setup p.to)))
  ArrivesSo (Some p) (Brings id certificates) = ReceiptAnswers (TakesCalled p s answer s' id) p.to certificates
  ArrivesSo (Some p) (BringsBack certificates) = ReceiptAnswers (TakesBack s answer s') p.to certificates
  ArrivesSo (Some p) NoCall = Unasked (IsUnread p s answer s')
  ArrivesSo (Some p) (IsDeclined id) = Unasked (Declines p s answer s' id)
  ArrivesSo (Some p) NoReply = Unasked (Idles s answer s' (Some (answers.Replied replied.Malformed)) [])
  ArrivesSo (Some p) (Notes code) = Unasked (Idles s answer s' (Some (answers.Replied (replied.Noted code))) [])
  ArrivesSo (Some p) NotSent = ⊥
  ArrivesSo None came = Unasked (Idles s answer s' (Some answers.Unsent) [])

  abbrev pub DeliverAnswers : ℕ → Type 0
  DeliverAnswers number = Unasked ((answer ≡ None) × (s' ≡ s))
      ⊎ ArrivesSo (packet_at s.packets number) (arrival setup (packet_at s.packets number))
