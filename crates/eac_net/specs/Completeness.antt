-- What is answered to a request that comes to an issuing desk where no count rises (this project's own).
use Rattle.std.specs.Prelude.{◌≡◌, ℕ, List, [], ◌∷◌, ◌++◌, Option, Some, None, IsSome}
use Rattle.eac_base.specs.Causes.{Rose}
use Rattle.policy_limits.specs.Setup.{SetupValue}
use Rattle.ledger.specs.Ledger.{faces, kept_for}
use Rattle.issue_core.specs.declared.rule.Rule.{Rule}
use Rattle.issue_core.specs.Issuing.Calls.{case_of}
use Rattle.issue_core.specs.Issuing.Desk.{issuing}
use Rattle.issue_core.specs.Issuing.Due.{due}
use Rattle.issue_core.specs.Issuing.Readings.{number_of, body_of}
use Rattle.issue_core.specs.Issuing.Rows.{entries_at}
use Rattle.issue_core.specs.Issuing.Rules.{Case, first_rule}
use Rattle.desk_core.specs.Replies.{given, refused}
use Rattle.desk_core.specs.declared.served.Event1.TheVariants as served
use Rattle.desk_core.specs.declared.served.Served.{Served}
use Rattle.eac_net.specs.Arrival.{arrival, AsksCertificate}
use Rattle.eac_net.specs.Items.{Ran}
use Rattle.eac_net.specs.Laws.{HasFault}
use Rattle.eac_net.specs.Packets.{next_number, packet_at, reply_to}
use Rattle.eac_net.specs.State.{State}
use Rattle.eac_net.specs.Turn.{RowsStep}
use Rattle.eac_net.specs.declared.answer.Answer.TheVariants as answers
use Rattle.eac_net.specs.declared.answer.Fault.{Fault}
use Rattle.eac_net.specs.declared.event.Event.TheVariants as events
use Rattle.eac_net.specs.declared.packet.Packet.{Packet}

-- ---- the premise

-- the item delivers this packet, and the packet asks an issuing desk for a certificate
pub record DeliversRequest (setup : SetupValue) (s : State) (i : Ran) (p : Packet) (id request : List ℕ) : Type 0 where
  pub number : ℕ
  pub event_is : i.event ≡ events.Deliver number
  pub packet_is : packet_at s.packets number ≡ Some p
  pub asks : arrival setup (Some p) ≡ AsksCertificate id request

-- no count rose within it
pub record NoneRose (i : Ran) : Type 0 where
  pub keeper : ¬ Rose i.from.parties.keeper i.to.parties.keeper
  pub provider : ¬ Rose i.from.parties.provider i.to.parties.provider

-- ---- the answer

module _ (p : Packet) (id request : List ℕ) (s : State) (i : Ran) (t : State) where
  -- it was told so, and this reply was sent
  pub record IsReplied (due : Served) : Type 0 where
    pub answer : i.answer ≡ Some (answers.Called (Some due.event) (next_number s.packets))
    pub packets : t.packets ≡ s.packets ++ reply_to p due.reply ∷ []

  -- a new certificate with the body that is due: the desk keeps it for this request from now on
  pub record IsIssued (c : Case) : Type 0 where
    pub certificate : List ℕ
    pub body : due c ≡ body_of certificate
    pub kept : kept_for issuing (entries_at p.to t.rows) request ≡ Some certificate
    pub replied : IsReplied (given id (certificate ∷ []) (served.Issued (number_of request)))

  -- by the certificate that the desk keeps for the request, else by the first rule that it breaks, else by a new one
  abbrev pub AnswersBy : Case → Option (List ℕ) → Option Rule → Type 0
  AnswersBy c (Some kept) rule = IsReplied (given id (kept ∷ []) (served.Kept (number_of request)))
  AnswersBy c None (Some rule) = IsReplied (refused id rule)
  AnswersBy c None None = IsIssued c

-- The request was answered on the day in force, as the desk's rows and the provider's word before it decide, and no fault
-- is told.
pub record IsServed (setup : SetupValue) (p : Packet) (id request : List ℕ) (s : State) (i : Ran) (t : State) : Type 0 where
  pub day : ℕ
  pub today : s.day ≡ Some day
  pub answers_by : AnswersBy p id request s i t (case_of i.from.says setup p.to day request s.rows)
      (kept_for issuing (entries_at p.to s.rows) request)
      (first_rule (faces issuing (entries_at p.to s.rows)) (case_of i.from.says setup p.to day request s.rows))
  pub no_fault : (f : Fault) → HasFault f i.answer → ⊥

-- where the rows are told, no count rose and memory wasn't wanting, each request is answered so
abbrev pub RequestsAreServed : Type 0
RequestsAreServed = (setup : SetupValue) (s t : State) (i : Ran) (p : Packet) (id request : List ℕ) → RowsStep setup s i t
    → DeliversRequest setup s i p id request → NoneRose i → IsSome i.answer → IsServed setup p id request s i t
