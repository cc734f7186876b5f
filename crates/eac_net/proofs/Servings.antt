-- What came of a packet, by the party's answer.
use Rattle.std.proofs.Common.{◌≡◌, ℕ, Bool, true, cond, List, [], ◌∷◌, Some, Ok, Err, sym, subst}
use Rattle.std.specs.Prelude.{IfOk, IfSome}
use Rattle.std.specs.declared.option.Option.{Option}
use Rattle.std.specs.declared.result.Result.{Result}
use Rattle.eac_base.specs.declared.failures.NoMemory.{NoMemory}
use Rattle.eac_messages.specs.Message.{CanBeCalled, read_message}
use Rattle.eac_messages.specs.Reply.{CanBeReplied, read_reply}
use Rattle.eac_messages.specs.declared.code.Code.TheVariants as code
use Rattle.eac_messages.specs.declared.message.Message.{Message}
use Rattle.eac_messages.specs.declared.message.Message.TheVariants as messages
use Rattle.policy_limits.specs.Setup.{SetupValue}
use Rattle.desk_core.specs.Laws.{CanBeWritten}
use Rattle.desk_core.specs.Replies.{request_served, list_served, received_served, declined}
use Rattle.desk_core.specs.Serving.{Moment as Around, ReceiptServed}
use Rattle.desk_core.specs.declared.served.Served.{Served}
use Rattle.desk_core.proofs.Writable.{coded_written, request_written, list_written, receipt_written}
use Rattle.cvca_desk.specs.Answering as authority
use Rattle.dv_desk.specs.Answering as verifier
use Rattle.terminal_desk.specs.Answering as terminal
use Rattle.eac_net.specs.Answers.{Tells}
use Rattle.eac_net.specs.Arrival.{Arrival, NotSent, NoCall, AsksCertificate, AsksList, Brings, IsDeclined, NoReply, BringsBack, Notes, arrival, call_read, reply_read}
use Rattle.eac_net.specs.Delivered.{served_answer, served_sent}
use Rattle.eac_net.specs.Packets.{next_number, packet_at, reply_to}
use Rattle.eac_net.specs.Parties.{kind_at}
use Rattle.eac_net.specs.Serving.{AnswersCall, TakesThem, Came, CameOrNot}
use Rattle.eac_net.specs.declared.answer.Answer.TheVariants as answers
use Rattle.eac_net.specs.declared.answer.Happened.{Happened}
use Rattle.eac_net.specs.declared.packet.Packet.{Packet}

-- ---- the reply can be written

due_writable : (due : Option Served) → CanBeWritten due → (result : Result Served NoMemory) → IfOk result (λ served. due ≡ Some served) → IfOk result (λ served. CanBeReplied served.reply)
due_writable due w (Ok s) is = subst (λ (x : Option Served). IfSome x (λ served. CanBeReplied served.reply)) is w
due_writable due w (Err e) is = tt

declined_writable : (id : List ℕ) → CanBeReplied (declined id).reply → (result : Result Served NoMemory) → IfOk result (λ served. served ≡ declined id) → IfOk result (λ served. CanBeReplied served.reply)
declined_writable id w (Ok s) is = subst (λ (x : Served). CanBeReplied x.reply) (sym is) w
declined_writable id w (Err e) is = tt

module _ (setup : SetupValue) (desk day : ℕ) (was now : Around) (result : Result Served NoMemory) where
  pub authority_writable : (message : Message) → CanBeCalled message → authority.IsAnswered setup desk day message was now result → IfOk result (λ served. CanBeReplied served.reply)
  authority_writable (messages.RequestCertificate id request) can h = due_writable (request_served id request h.issued) (request_written id can.text can.size request h.issued) result h.reply
  authority_writable (messages.GetCaCertificates id) can h = due_writable (list_served id h.0.listed) (list_written id can.text can.size h.0.listed) result h.0.reply
  authority_writable (messages.SendCertificates id certificates) can h = declined_writable id (coded_written id can.text can.size code.NotAccepted) result h.reply

  pub verifier_writable : (message : Message) → CanBeCalled message → verifier.IsAnswered setup desk day message was now result → IfOk result (λ served. CanBeReplied served.reply)
  verifier_writable (messages.RequestCertificate id request) can h = due_writable (request_served id request h.issued) (request_written id can.text can.size request h.issued) result h.reply
  verifier_writable (messages.GetCaCertificates id) can h = due_writable (list_served id h.0.listed) (list_written id can.text can.size h.0.listed) result h.0.reply
  verifier_writable (messages.SendCertificates id certificates) can h = due_writable (received_served id h.received) (receipt_written id can.text can.size h.received h.received.fault) result h.reply

  pub terminal_writable : (message : Message) → CanBeCalled message → terminal.IsAnswered desk message was now result → IfOk result (λ served. CanBeReplied served.reply)
  terminal_writable (messages.RequestCertificate id request) can h = declined_writable id (coded_written id can.text can.size code.NotAccepted) result h.reply
  terminal_writable (messages.GetCaCertificates id) can h = declined_writable id (coded_written id can.text can.size code.NotAccepted) result h.reply
  terminal_writable (messages.SendCertificates id certificates) can h = due_writable (received_served id h.received) (receipt_written id can.text can.size h.received h.received.fault) result h.reply

-- ---- a call was answered

takes_them : (party : ℕ) (id : List ℕ) (certificates : List (List ℕ)) (was now : Around) (result : Result Served NoMemory) (h : ReceiptServed party id certificates was now result) → TakesThem party certificates was now h.received
takes_them party id certificates was now result h = record { told = h.told; answered = h.answered; cause = h.cause; says = h.says; holds = h.holds; signed = h.signed }

module _ (setup : SetupValue) (day : ℕ) (packets : List Packet) (was now : Around) (p : Packet) where
  -- and replied to
  pub came_served : (came : Arrival) (served : Served) (happened : Result Happened NoMemory) → AnswersCall setup p.to day came was now (Ok served) →
      Tells happened (Some (answers.Called (Some served.event) (next_number packets))) (reply_to p served.reply ∷ []) → Came was now happened setup day packets (Some p) came
  came_served (AsksCertificate id request) served happened h t = record {
    served = Ok served;
    does = h;
    tells = subst (λ (due : Option Served). Tells happened (served_answer (next_number packets) due) (served_sent p due)) (sym h.reply) t;
  }
  came_served (AsksList id) served happened h t = record {
    served = Ok served;
    does = h.0;
    provider = h.1;
    tells = subst (λ (due : Option Served). Tells happened (served_answer (next_number packets) due) (served_sent p due)) (sym h.0.reply) t;
  }
  came_served (Brings id certificates) served happened h t = record {
    received = h.received;
    does = takes_them p.to id certificates was now (Ok served) h;
    tells = subst (λ (due : Option Served). Tells happened (served_answer (next_number packets) due) (served_sent p due)) (sym h.reply) t;
  }
  came_served (IsDeclined id) served happened h t = record {
    same = h.unasked;
    tells = subst (λ (s : Served). Tells happened (served_answer (next_number packets) (Some s)) (served_sent p (Some s))) h.reply t;
  }
  came_served NotSent served happened h t = absurd h
  came_served NoCall served happened h t = absurd h
  came_served NoReply served happened h t = absurd h
  came_served (BringsBack certificates) served happened h t = absurd h
  came_served (Notes c) served happened h t = absurd h

-- ---- the packet of a number

module _ (setup : SetupValue) (day number : ℕ) (packets : List Packet) (was now : Around) (happened : Result Happened NoMemory) (p : Packet) (found : packet_at packets number ≡ Some p) where
  abbrev Goal : Option Packet → Arrival → Type 0
  Goal q came = CameOrNot was now happened setup day packets q came

  pub reply_found : p.reply ≡ true → Goal (Some p) (reply_read (read_reply p.body)) → Goal (packet_at packets number) (arrival setup (packet_at packets number))
  reply_found is h = subst (λ (q : Option Packet). Goal q (arrival setup q)) (sym found)
      (subst (λ (b : Bool). Goal (Some p) (cond b (reply_read (read_reply p.body)) (call_read (kind_at setup p.to) (read_message p.body)))) (sym is) h)
