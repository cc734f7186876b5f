-- A fault that is told has a risen count.
use Rattle.std.proofs.Common.{◌≡◌, ℕ, List, Some, None, Ok, Err, inl, inr, refl, ap, subst}
use Rattle.std.specs.declared.option.Option.{Option}
use Rattle.std.specs.declared.result.Result.{Result}
use Rattle.eac_base.specs.Causes.{Rose}
use Rattle.policy_limits.specs.Setup.{SetupValue}
use Rattle.issue_core.specs.declared.rule.Rule.{Rule}
use Rattle.issue_core.specs.declared.fault.IssueFault.{IssueFault}
use Rattle.issue_core.specs.declared.fault.IssueFault.TheVariants as issue_fault
use Rattle.issue_core.specs.declared.issuing.serving.Answer.{Answer as Issuance}
use Rattle.issue_core.specs.declared.issuing.serving.Answer.TheVariants as issuance
use Rattle.issue_core.specs.Issuing.Causes.{IssueCause}
use Rattle.issue_core.specs.Registering.Desk.{RegisterFault}
use Rattle.ledger.specs.Ledger.{Outcome, Issued, Kept, Refused, Faulted, NoMemory}
use Rattle.holder_core.specs.Faults.{FaultCause, HolderCause, KeeperCaused, NoneMissing}
use Rattle.holder_core.specs.Receiving.{ending}
use Rattle.holder_core.specs.declared.fault.HolderFault.{HolderFault}
use Rattle.holder_core.specs.declared.fault.HolderFault.TheVariants as fault
use Rattle.holder_core.specs.declared.received.Received.{Received}
use Rattle.desk_core.specs.Replies.{request_served, list_served, received_by}
use Rattle.eac_net.specs.Answers.{answer_by, outcome_answer}
use Rattle.eac_net.specs.Arrival.{Arrival, NotSent, NoCall, AsksCertificate, AsksList, Brings, IsDeclined, NoReply, BringsBack, Notes, arrival}
use Rattle.eac_net.specs.Asking.{Counts}
use Rattle.eac_net.specs.ChipSays.{ChipSays}
use Rattle.eac_net.specs.Chips.{chip_in}
use Rattle.eac_net.specs.Delivered.{served_answer, took_answer}
use Rattle.eac_net.specs.Delivering.{ArrivesSo, DeliverAnswers}
use Rattle.eac_net.specs.Ending.{Ends}
use Rattle.eac_net.specs.Items.{Ran}
use Rattle.eac_net.specs.Laws.{IsToldAs, ReceiptFails, FailsWith, HasFault, HasRisen, FaultsHaveCauses}
use Rattle.eac_net.specs.Moment.{Meanings, means}
use Rattle.eac_net.specs.Packets.{packet_at}
use Rattle.eac_net.specs.State.{Standing}
use Rattle.eac_net.specs.Untold.{Says}
use Rattle.eac_net.specs.Verdicts.{Verdict}
use Rattle.eac_net.specs.declared.answer.Answer.{Answer}
use Rattle.eac_net.specs.declared.answer.Answer.TheVariants as answers
use Rattle.eac_net.specs.declared.answer.Fault.{Fault}
use Rattle.eac_net.specs.declared.answer.Fault.TheVariants as faults
use Rattle.eac_net.specs.declared.event.Event.{Event}
use Rattle.eac_net.specs.declared.event.Event.TheVariants as events
use Rattle.eac_net.specs.declared.packet.Packet.{Packet}
use Rattle.eac_net.proofs.ChipCauses.{chip_fault_caused}

-- by the two counts of parties
abbrev Rises : Fault → (s s' : Standing) → Type 0
Rises faults.Keeper s s' = Rose s.keeper s'.keeper
Rises faults.Provider s s' = Rose s.provider s'.provider
Rises faults.Disk s s' = ⊥
Rises (faults.Key reference) s s' = Unit {0}

-- what was told at the end was told of the result
pub told_of : (s s' : Standing) (answer said : Option Answer) (sent : List Packet) (f : Fault) → Ends s answer s' said sent → HasFault f answer → HasFault f said
told_of s s' answer said sent f (inl e) h = subst (HasFault f) e.told h
told_of s s' answer said sent f (inr e) h = absurd (subst (HasFault f) e.told h)

rises_by : {A : Type 0} (missing : List ℕ → Type 0) (mk : A → Answer) → ((a : A) (f : Fault) → FailsWith f (mk a) → ⊥) → (s s' : Standing) (result : Result A HolderFault) → HolderCause missing (s.keeper, s'.keeper) (s.provider, s'.provider) result →
    (f : Fault) → HasFault f (answer_by mk result) → Rises f s s'
rises_by missing mk quiet s s' (Ok a) c f h = absurd (quiet a f h)
rises_by missing mk quiet s s' (Err fault.KeeperFault) c f h = subst (λ (g : Fault). Rises g s s') h c.failed
rises_by missing mk quiet s s' (Err fault.ProviderFault) c f h = subst (λ (g : Fault). Rises g s s') h c.failed
rises_by missing mk quiet s s' (Err (fault.NoKey reference)) c f h = subst (λ (g : Fault). Rises g s s') h tt
rises_by missing mk quiet s s' (Err fault.NoMemory) c f h = absurd h

keeper_rises : {A : Type 0} (mk : A → Answer) → ((a : A) (f : Fault) → FailsWith f (mk a) → ⊥) → (s s' : Standing) (result : Result A HolderFault) → KeeperCaused s.keeper s'.keeper result →
    (f : Fault) → HasFault f (answer_by mk result) → Rises f s s'
keeper_rises mk quiet s s' (Ok a) c f h = absurd (quiet a f h)
keeper_rises mk quiet s s' (Err fault.KeeperFault) c f h = subst (λ (g : Fault). Rises g s s') h c.failed
keeper_rises mk quiet s s' (Err fault.ProviderFault) c f h = absurd c.failed
keeper_rises mk quiet s s' (Err (fault.NoKey reference)) c f h = absurd c.failed
keeper_rises mk quiet s s' (Err fault.NoMemory) c f h = absurd h

register_rises : (reference : List ℕ) (s s' : Standing) (outcome : Outcome (List ℕ) Rule RegisterFault) → Counts s.keeper s'.keeper outcome → (f : Fault) → HasFault f (outcome_answer reference outcome) → Rises f s s'
register_rises reference s s' (Issued day) c f h = absurd h
register_rises reference s s' (Kept day) c f h = absurd h
register_rises reference s s' (Refused rule) c f h = absurd h
register_rises reference s s' (Faulted x) c f h = subst (λ (g : Fault). Rises g s s') h c
register_rises reference s s' NoMemory c f h = absurd h

-- ---- a delivery

-- a party's fault, told as this one
told_rises : (missing : List ℕ → Type 0) (f : Fault) (s s' : Standing) (x : HolderFault) → FaultCause missing x (s.keeper, s'.keeper) (s.provider, s'.provider) → IsToldAs f x → Rises f s s'
told_rises missing f s s' fault.KeeperFault c e = let is : faults.Keeper ≡ f = cc in subst (λ (g : Fault). Rises g s s') is c
told_rises missing f s s' fault.ProviderFault c e = let is : faults.Provider ≡ f = cc in subst (λ (g : Fault). Rises g s s') is c
told_rises missing f s s' (fault.NoKey reference) c e = let is : faults.Key reference ≡ f = cc in subst (λ (g : Fault). Rises g s s') is tt
told_rises missing f s s' fault.NoMemory c e = absurd (cc (e))

request_rises : (misses : List ℕ → Type 0) (f : Fault) (s s' : Standing) (reply : ℕ) (id request : List ℕ) (result : Result Issuance IssueFault) → IssueCause misses (s.keeper, s'.keeper) (s.provider, s'.provider) result →
    HasFault f (served_answer reply (request_served id request result)) → Rises f s s'
request_rises misses f s s' reply id request (Ok (issuance.Issued p)) c h = absurd h
request_rises misses f s s' reply id request (Ok (issuance.Kept p)) c h = absurd h
request_rises misses f s s' reply id request (Ok (issuance.Refused k)) c h = absurd h
request_rises misses f s s' reply id request (Err issue_fault.KeeperFault) c h = told_rises misses f s s' fault.KeeperFault c.failed h
request_rises misses f s s' reply id request (Err issue_fault.ProviderFault) c h = told_rises misses f s s' fault.ProviderFault c.failed h
request_rises misses f s s' reply id request (Err (issue_fault.NoKey reference)) c h = told_rises misses f s s' (fault.NoKey reference) c.failed h
request_rises misses f s s' reply id request (Err issue_fault.NoMemory) c h = absurd h

list_rises : (f : Fault) (s s' : Standing) (reply : ℕ) (id : List ℕ) (result : Result (List (List ℕ)) HolderFault) → KeeperCaused s.keeper s'.keeper result →
    HasFault f (served_answer reply (list_served id result)) → Rises f s s'
list_rises f s s' reply id (Ok list) c h = absurd h
list_rises f s s' reply id (Err fault.KeeperFault) c h = told_rises NoneMissing f s s' fault.KeeperFault c.failed h
list_rises f s s' reply id (Err fault.ProviderFault) c h = absurd c.failed
list_rises f s s' reply id (Err (fault.NoKey reference)) c h = absurd c.failed
list_rises f s s' reply id (Err fault.NoMemory) c h = absurd h

-- certificates that were taken, with a reply or without
pub received_told : (f : Fault) (reply : ℕ) (id : List ℕ) (r : Received) (x : Option HolderFault) → HasFault f (served_answer reply (received_by id r x)) → ReceiptFails f r
received_told f reply id r None h = h
received_told f reply id r (Some fault.KeeperFault) h = h
received_told f reply id r (Some fault.ProviderFault) h = h
received_told f reply id r (Some (fault.NoKey reference)) h = h
received_told f reply id r (Some fault.NoMemory) h = absurd h

pub took_told : (f : Fault) (r : Received) (x : Option HolderFault) → HasFault f (took_answer x r) → ReceiptFails f r
took_told f r None h = h
took_told f r (Some fault.KeeperFault) h = h
took_told f r (Some fault.ProviderFault) h = h
took_told f r (Some (fault.NoKey reference)) h = h
took_told f r (Some fault.NoMemory) h = absurd h

receipt_rises : (f : Fault) (s s' : Standing) (r : Received) → HolderCause NoneMissing (s.keeper, s'.keeper) (s.provider, s'.provider) (ending r.fault) → ReceiptFails f r → Rises f s s'
receipt_rises f s s' r c h =
    let ended : HolderCause NoneMissing (s.keeper, s'.keeper) (s.provider, s'.provider) (ending (Some h.0)) =
    subst (λ (x : Option HolderFault). HolderCause NoneMissing (s.keeper, s'.keeper) (s.provider, s'.provider) (ending x)) h.1 c in
    told_rises NoneMissing f s s' h.0 ended.failed h.2

module _ (setup : SetupValue) (m : Meanings) (s : Standing) (answer : Option Answer) (asked : List Verdict) (s' : Standing) (f : Fault) (h : HasFault f answer) where
  arrives_rises : (came : Option Packet) (arrived : Arrival) → ArrivesSo setup m s answer asked s' came arrived → Rises f s s'
  arrives_rises (Some p) (AsksCertificate id request) x = request_rises _ f s s' _ id request x.event.issued x.event.cause (told_of s s' answer _ _ f x.event.ends h)
  arrives_rises (Some p) (AsksList id) x = list_rises f s s' _ id x.event.result x.event.cause (told_of s s' answer _ _ f x.event.ends h)
  arrives_rises (Some p) (Brings id certificates) x =
      receipt_rises f s s' x.event.received x.event.cause (received_told f _ id x.event.received x.event.received.fault (told_of s s' answer _ _ f x.event.ends h))
  arrives_rises (Some p) (BringsBack certificates) x =
      receipt_rises f s s' x.event.received x.event.cause (took_told f x.event.received x.event.received.fault (told_of s s' answer _ _ f x.event.ends h))
  arrives_rises (Some p) NoCall x = absurd (told_of s s' answer _ _ f x.event.ends h)
  arrives_rises (Some p) (IsDeclined id) x = absurd (told_of s s' answer _ _ f x.event.ends h)
  arrives_rises (Some p) NoReply x = absurd (told_of s s' answer _ _ f x.event.ends h)
  arrives_rises (Some p) (Notes code) x = absurd (told_of s s' answer _ _ f x.event.ends h)
  arrives_rises (Some p) NotSent x = absurd x
  arrives_rises None arrived x = absurd (told_of s s' answer _ _ f x.event.ends h)

  delivered_rises : (number : ℕ) → DeliverAnswers setup m s answer asked s' number → Rises f s s'
  delivered_rises number (inl nothing) = absurd (subst (HasFault f) nothing.event.0 h)
  delivered_rises number (inr x) = arrives_rises (packet_at s.packets number) (arrival setup (packet_at s.packets number)) x

-- ---- any event

module _ (setup : SetupValue) (i : Ran) (f : Fault) where
  risen : (g : Fault) → Rises g i.from.parties i.to.parties → HasRisen g i
  risen faults.Keeper h = h
  risen faults.Provider h = h
  risen faults.Disk h = absurd h
  risen (faults.Key reference) h = tt

  by_event : (e : Event) → Says setup (means i.from i.to) i.from.parties e i.answer i.asked i.to.parties → ChipSays e i → i.event ≡ e → HasFault f i.answer → HasRisen f i
  by_event (events.Day day) x c is h = absurd (subst (HasFault f) x.event.0 h)
  by_event (events.Ask reference bytes) x c is h = risen f (register_rises reference i.from.parties i.to.parties x.event.outcome x.event.counts f (subst (HasFault f) x.event.told h))
  by_event (events.Found authority) x c is h = let a = x.event.event in risen f (rises_by _ answers.Founded (λ a f h. h) i.from.parties i.to.parties a.result a.cause f (told_of i.from.parties i.to.parties i.answer _ _ f a.ends h))
  by_event (events.Link authority) x c is h = let a = x.event.event in risen f (rises_by _ answers.Linked (λ a f h. h) i.from.parties i.to.parties a.result a.cause f (told_of i.from.parties i.to.parties i.answer _ _ f a.ends h))
  by_event (events.Trust party authority) x c is h = let a = x.event in risen f (keeper_rises answers.Trusted (λ a f h. h) i.from.parties i.to.parties a.result a.cause f (told_of i.from.parties i.to.parties i.answer _ _ f a.ends h))
  by_event (events.Apply holder authority root) x c is h = let a = x.event.event in risen f (rises_by _ _ (λ a f h. h) i.from.parties i.to.parties a.result a.cause f (told_of i.from.parties i.to.parties i.answer _ _ f a.ends h))
  by_event (events.Fetch party desk) x c is h = absurd (told_of i.from.parties i.to.parties i.answer _ _ f x.event.ends h)
  by_event (events.Send from to bytes) x c is h = absurd (told_of i.from.parties i.to.parties i.answer _ _ f x.event.ends h)
  by_event (events.Push desk party) x c is h = let a = x.event in risen f (keeper_rises _ (λ a f h. h) i.from.parties i.to.parties a.result a.cause f (told_of i.from.parties i.to.parties i.answer _ _ f a.ends h))
  by_event (events.Deliver number) x c is h = risen f (delivered_rises setup (means i.from i.to) i.from.parties i.answer i.asked i.to.parties f h number x)
  by_event (events.Make chip authority) x c is h = chip_fault_caused chip i f c h (ap chip_in is)
  by_event (events.Present chip terminal) x c is h = chip_fault_caused chip i f c h (ap chip_in is)
  by_event (events.Import chip bytes) x c is h = chip_fault_caused chip i f c h (ap chip_in is)
  by_event (events.Look chip) x c is h = chip_fault_caused chip i f c h (ap chip_in is)

pub faults_have_causes : FaultsHaveCauses
faults_have_causes setup i f a h = by_event setup i f i.event a.says a.chips refl h
