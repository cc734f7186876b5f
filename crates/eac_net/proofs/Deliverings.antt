-- A packet comes: its step between objects, by what it is.
use Rattle.chip_events.specs.DiskTurns.{DiskKnown}
use Rattle.std.proofs.Common.{◌≡◌, ℕ, List, [], Some, None, inl, inr, refl, sym, subst}
use Rattle.std.specs.Prelude.{IfSome}
use Rattle.std.specs.declared.option.Option.{Option}
use Rattle.std.specs.declared.result.Result.{Result}
use Rattle.std.proofs.lemmas.List.Elements.{All-nil}
use Rattle.eac_base.specs.declared.failures.NoMemory.{NoMemory}
use Rattle.policy_limits.specs.Setup.{SetupValue}
use Rattle.keeper.specs.Rows.{UniqueKeys}
use Rattle.issue_core.specs.Issuing.ProviderCalls.{Standing as ProviderStanding}
use Rattle.holder_core.specs.declared.received.Received.{Received}
use Rattle.desk_core.specs.Replies.{received_served, declined}
use Rattle.desk_core.specs.Serving.{Moment as Around}
use Rattle.eac_net.specs.Answers.{Concludes}
use Rattle.eac_net.specs.Arrival.{Arrival, NotSent, NoCall, AsksCertificate, AsksList, Brings, IsDeclined, NoReply, BringsBack, Notes, arrival}
use Rattle.eac_net.specs.Delivered.{served_answer, served_sent, unread_reply, took_answer}
use Rattle.eac_net.specs.Packets.{next_number, packet_at, IsBetween, AreBetween}
use Rattle.eac_net.specs.Serving.{TakesThem, Came, CameOrNot, IsIdle}
use Rattle.eac_net.specs.Steps.{HasStepped}
use Rattle.eac_net.specs.declared.answer.Answer.{Answer}
use Rattle.eac_net.specs.declared.answer.Answer.TheVariants as answers
use Rattle.eac_net.specs.declared.answer.Happened.{Happened}
use Rattle.eac_net.specs.declared.answer.Replied.TheVariants as replied
use Rattle.eac_net.specs.declared.event.Event.TheVariants as events
use Rattle.eac_net.specs.declared.packet.Packet.{Packet}
use Rattle.eac_net.specs.declared.world.World.{World}
use Rattle.eac_net.proofs.Arrivals.{IsThat, outside_of, at_between, reply_between, served_between}
use Rattle.eac_net.proofs.IdleDeliveries.{idle_steps, untouched_steps}
use Rattle.eac_net.proofs.ListDeliveries.{list_steps}
use Rattle.eac_net.proofs.ReceiptDeliveries.{receipt_steps}
use Rattle.eac_net.proofs.RequestDeliveries.{request_steps}

module _ {F : Type 0} (setup : SetupValue) (number : ℕ) (w w' : World) (day : ℕ) (today : w.day ≡ Some day) (were : AreBetween setup w.packets)
    (happened : Result Happened NoMemory) (r : Result (Unit {0}) F) (line line' : List ℕ) (c : Concludes happened r w w' line line') (disks : ℕ → DiskKnown) where
  abbrev Goal : Around → Around → Type 0
  Goal was now = HasStepped setup (events.Deliver number) r (w, line) (w', line') (outside_of disks was) (outside_of disks now)

  -- ---- where keeper and provider are as they were

  idle_so : (was now : Around) (said : Option Answer) (sent : List Packet) → IsIdle was now happened said sent → Goal was was → Goal was now
  idle_so was now said sent idle goal = subst (Goal was) (sym idle.same) goal

  -- ---- certificates

  module _ (was now : Around) (party : ℕ) (certificates : List (List ℕ)) (received : Received) (takes : TakesThem party certificates was now received) where
    -- the provider's count alone may have changed
    abbrev later : Around
    later = record {
      keeper = now.keeper;
      provider = record { says = was.provider.says; holds = was.provider.holds; signed = was.provider.signed; faults = now.provider.faults };
    }

    later_is : now ≡ later
    later_is = λ j. record {
      keeper = now.keeper;
      provider = record { says = takes.says j; holds = takes.holds j; signed = takes.signed j; faults = now.provider.faults };
    }

  -- ---- by the packet

  module _ (was now : Around) (unique : IfSome was.keeper.rows UniqueKeys) where
    by_packet : (p : Option Packet) (came : Arrival) → IsThat setup number w.packets p came → IfSome p (IsBetween setup) → Came was now happened setup day w.packets p came → Goal was now
    by_packet None came that between h = idle_so was now (Some answers.Unsent) [] h
        (idle_steps setup number w w' (outside_of disks was) None came that (λ packets. Some answers.Unsent) [] (λ m s s' answer x. x) (λ m s s' answer x. x) happened r line line' (All-nil (IsBetween setup)) were c h.tells)
    by_packet (Some p) (AsksCertificate id request) that between h =
        request_steps setup number w w' disks was now p id request that day today h.served h.does happened r line line' between were unique c h.tells
    by_packet (Some p) (AsksList id) that between h =
        subst (λ (x : ProviderStanding). Goal was (record { keeper = now.keeper; provider = x })) (sym h.provider)
        (list_steps setup number w w' (outside_of disks was) was.keeper.rows now.keeper.rows was.keeper.faults now.keeper.faults p id that h.does.listed h.does.cause
        happened r line line' between were c h.tells h.does.told h.does.asked)
    by_packet (Some p) (Brings id certificates) that between h =
        subst (Goal was) (sym (later_is was now p.to certificates h.received h.does))
        (receipt_steps setup number w w' (outside_of disks was) was.keeper.rows now.keeper.rows was.keeper.faults now.keeper.faults was.provider.faults now.provider.faults (Some p) (Brings id certificates) that p.to certificates
        (λ packets x. served_answer (next_number packets) (received_served id x)) (λ x. served_sent p (received_served id x)) (λ m s s' answer asked x. x) (λ m s s' answer x. x)
        h.received h.does.cause h.does.told happened r line line' (served_between setup p (received_served id h.received) between) were unique c h.tells h.does.answered)
    by_packet (Some p) (BringsBack certificates) that between h =
        subst (Goal was) (sym (later_is was now p.to certificates h.received h.does))
        (receipt_steps setup number w w' (outside_of disks was) was.keeper.rows now.keeper.rows was.keeper.faults now.keeper.faults was.provider.faults now.provider.faults (Some p) (BringsBack certificates) that p.to certificates
        (λ packets x. took_answer x.fault x) (λ x. []) (λ m s s' answer asked x. x) (λ m s s' answer x. x)
        h.received h.does.cause h.does.told happened r line line' (All-nil (IsBetween setup)) were unique c h.tells h.does.answered)
    by_packet (Some p) NoCall that between h = idle_so was now (Some (answers.Called None (next_number w.packets))) _ h
        (idle_steps setup number w w' (outside_of disks was) (Some p) NoCall that (λ packets. Some (answers.Called None (next_number packets))) _ (λ m s s' answer x. x) (λ m s s' answer x. x) happened r line line'
        (reply_between setup p unread_reply between) were c h.tells)
    by_packet (Some p) (IsDeclined id) that between h = idle_so was now (served_answer (next_number w.packets) (Some (declined id))) (served_sent p (Some (declined id))) h
        (idle_steps setup number w w' (outside_of disks was) (Some p) (IsDeclined id) that (λ packets. served_answer (next_number packets) (Some (declined id))) (served_sent p (Some (declined id)))
        (λ m s s' answer x. x) (λ m s s' answer x. x) happened r line line' (served_between setup p (Some (declined id)) between) were c h.tells)
    by_packet (Some p) NoReply that between h = idle_so was now (Some (answers.Replied replied.Malformed)) [] h
        (idle_steps setup number w w' (outside_of disks was) (Some p) NoReply that (λ packets. Some (answers.Replied replied.Malformed)) [] (λ m s s' answer x. x) (λ m s s' answer x. x) happened r line line'
        (All-nil (IsBetween setup)) were c h.tells)
    by_packet (Some p) (Notes code) that between h = idle_so was now (Some (answers.Replied (replied.Noted code))) [] h
        (idle_steps setup number w w' (outside_of disks was) (Some p) (Notes code) that (λ packets. Some (answers.Replied (replied.Noted code))) [] (λ m s s' answer x. x) (λ m s s' answer x. x) happened r line line'
        (All-nil (IsBetween setup)) were c h.tells)
    by_packet (Some p) NotSent that between h = absurd h

    pub deliver_steps : CameOrNot was now happened setup day w.packets (packet_at w.packets number) (arrival setup (packet_at w.packets number)) → Goal was now
    deliver_steps (inl h) = subst (Goal was) (sym h.same) (untouched_steps setup number w w' (outside_of disks was) happened r line line' were h.failed c)
    deliver_steps (inr h) = by_packet (packet_at w.packets number) (arrival setup (packet_at w.packets number)) (record { packet = refl; came_is = refl }) (at_between setup w.packets number were) h
