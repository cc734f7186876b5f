-- What a packet that came did to keeper and provider, and what came of it, a step of its delivery (this project's own).
use Rattle.std.specs.Prelude.{◌≡◌, ◌⊎◌, ℕ, List, [], ◌∷◌, Option, Some, None, Result}
use Rattle.std.specs.Result.{IsErr}
use Rattle.eac_base.specs.Telling.{Told}
use Rattle.eac_base.specs.declared.failures.NoMemory.{NoMemory}
use Rattle.policy_limits.specs.Setup.{SetupValue}
use Rattle.holder_core.specs.Faults.{HolderCause, NoneMissing}
use Rattle.holder_core.specs.Receiving.{Receives, ReceivedAsked, Question, ending}
use Rattle.holder_core.specs.declared.received.Received.{Received}
use Rattle.desk_core.specs.Replies.{request_served, list_served, received_served, declined}
use Rattle.desk_core.specs.Serving.{Moment, RequestServed, ListServed, ReceiptServed, CallDeclined}
use Rattle.desk_core.specs.declared.served.Served.{Served}
use Rattle.eac_net.specs.Answers.{Tells}
use Rattle.eac_net.specs.Arrival.{Arrival, NotSent, NoCall, AsksCertificate, AsksList, Brings, IsDeclined, NoReply, BringsBack, Notes}
use Rattle.eac_net.specs.Delivered.{served_answer, served_sent, unread_reply, took_answer}
use Rattle.eac_net.specs.Packets.{next_number, reply_to}
use Rattle.eac_net.specs.Pushing.{list_due, ListAsked}
use Rattle.eac_net.specs.declared.answer.Answer.{Answer}
use Rattle.eac_net.specs.declared.answer.Answer.TheVariants as answers
use Rattle.eac_net.specs.declared.answer.Happened.{Happened}
use Rattle.eac_net.specs.declared.answer.Replied.TheVariants as replied
use Rattle.eac_net.specs.declared.packet.Packet.{Packet}

-- ---- a call, by the party's kind

abbrev pub AnswersCall : SetupValue → (party day : ℕ) → Arrival → (was now : Moment) → Result Served NoMemory → Type 0
AnswersCall setup party day (AsksCertificate id request) was now result =
    RequestServed setup party day id request was now result
AnswersCall setup party day (AsksList id) was now result =
    ListServed id (list_due setup party) (ListAsked setup party) was.keeper now.keeper result
    × (now.provider ≡ was.provider)
AnswersCall setup party day (Brings id certificates) was now result = ReceiptServed party id certificates was now result
AnswersCall setup party day (IsDeclined id) was now result = CallDeclined id was now result
AnswersCall setup party day NotSent was now result = ⊥
AnswersCall setup party day NoCall was now result = ⊥
AnswersCall setup party day NoReply was now result = ⊥
AnswersCall setup party day (BringsBack certificates) was now result = ⊥
AnswersCall setup party day (Notes code) was now result = ⊥

-- ---- certificates, as they were taken

pub record TakesThem (party : ℕ) (certificates : List (List ℕ)) (was now : Moment) (received : Received) : Type 0 where
  pub told : Told was.keeper.rows now.keeper.rows (λ before after. (asked : List Question) ×
      Receives was.provider.says party certificates before after received.items received.fault asked)
  pub answered : ReceivedAsked was.provider.says party certificates received.items received.fault
  pub cause : HolderCause NoneMissing (was.keeper.faults, now.keeper.faults)
      (was.provider.faults, now.provider.faults) (ending received.fault)
  pub says : now.provider.says ≡ was.provider.says
  pub holds : now.provider.holds ≡ was.provider.holds
  pub signed : now.provider.signed ≡ was.provider.signed

-- ---- a packet, by what it is

module _ (was now : Moment) (happened : Result Happened NoMemory) where
  -- neither keeper nor provider was asked
  pub record IsIdle (said : Option Answer) (sent : List Packet) : Type 0 where
    pub same : now ≡ was
    pub tells : Tells happened said sent

  -- memory was wanting for the reading, and nothing was done
  pub record IsUntouched : Type 0 where
    pub same : now ≡ was
    pub failed : IsErr happened

  pub record ServesBack (party : ℕ) (certificates : List (List ℕ)) : Type 0 where
    pub received : Received
    pub does : TakesThem party certificates was now received
    pub tells : Tells happened (took_answer received.fault received) []

  module _ (setup : SetupValue) (day : ℕ) (packets : List Packet) where
    -- what is told of a call that was served so
    abbrev pub TellsServed : Packet → Option Served → Type 0
    TellsServed p due = Tells happened (served_answer (next_number packets) due) (served_sent p due)

    pub record ServesRequest (p : Packet) (id request : List ℕ) : Type 0 where
      pub served : Result Served NoMemory
      pub does : RequestServed setup p.to day id request was now served
      pub tells : TellsServed p (request_served id request does.issued)

    pub record ServesList (p : Packet) (id : List ℕ) : Type 0 where
      pub served : Result Served NoMemory
      pub does : ListServed id (list_due setup p.to) (ListAsked setup p.to) was.keeper now.keeper served
      pub provider : now.provider ≡ was.provider
      pub tells : TellsServed p (list_served id does.listed)

    pub record ServesReceipt (p : Packet) (id : List ℕ) (certificates : List (List ℕ)) : Type 0 where
      pub received : Received
      pub does : TakesThem p.to certificates was now received
      pub tells : TellsServed p (received_served id received)

    abbrev pub Came : Option Packet → Arrival → Type 0
    Came (Some p) (AsksCertificate id request) = ServesRequest p id request
    Came (Some p) (AsksList id) = ServesList p id
    Came (Some p) (Brings id certificates) = ServesReceipt p id certificates
    Came (Some p) (BringsBack certificates) = ServesBack p.to certificates
    Came (Some p) NoCall = IsIdle (Some (answers.Called None (next_number packets))) (reply_to p unread_reply ∷ [])
    Came (Some p) (IsDeclined id) =
        IsIdle (served_answer (next_number packets) (Some (declined id))) (served_sent p (Some (declined id)))
    Came (Some p) NoReply = IsIdle (Some (answers.Replied replied.Malformed)) []
    Came (Some p) (Notes code) = IsIdle (Some (answers.Replied (replied.Noted code))) []
    Came (Some p) NotSent = ⊥
    Came None came = IsIdle (Some answers.Unsent) []

    abbrev pub CameOrNot : Option Packet → Arrival → Type 0
    CameOrNot p came = IsUntouched ⊎ Came p came
