-- Every event but a `day` is answered by some text, and a `day` by none.
use Rattle.std.proofs.Common.{◌≡◌, ℕ, true, false, List, Some, None, Ok, Err, refl, sym, subst}
use Rattle.std.specs.declared.option.Option.{Option}
use Rattle.std.specs.declared.result.Result.{Result}
use Rattle.std.proofs.Common.{inl, inr}
use Rattle.policy_limits.specs.Setup.{SetupValue}
use Rattle.ledger.specs.Ledger.{Outcome, Issued, Kept, Refused, Faulted, NoMemory}
use Rattle.issue_core.specs.declared.rule.Rule.{Rule}
use Rattle.issue_core.specs.Registering.Desk.{RegisterFault}
use Rattle.holder_core.specs.declared.fault.HolderFault.{HolderFault}
use Rattle.holder_core.specs.declared.fault.HolderFault.TheVariants as fault
use Rattle.holder_core.specs.declared.received.Received.{Received}
use Rattle.desk_core.specs.declared.served.Served.{Served}
use Rattle.chip_events.specs.Imports.{InHand}
use Rattle.chip_events.specs.Told.{ChipPart}
use Rattle.eac_net.specs.Answers.{fault_answer, answer_by, outcome_answer}
use Rattle.eac_net.specs.Arrival.{Arrival, NotSent, NoCall, AsksCertificate, AsksList, Brings, IsDeclined, NoReply, BringsBack, Notes, arrival}
use Rattle.eac_net.specs.ChipSays.{OfChip, ChipSays}
use Rattle.eac_net.specs.ChipTurn.{IsTold, told_by, EndsAt, MakesBy, ShowsBy, PresentTurn, ChipTurn, shown_as}
use Rattle.eac_net.specs.Delivered.{served_answer, took_answer}
use Rattle.eac_net.specs.Delivering.{ArrivesSo, DeliverAnswers}
use Rattle.eac_net.specs.Ending.{Ends}
use Rattle.eac_net.specs.Handed.{Handed, Unasked, Certs, NoneFor, KeeperFailed, NoRoom}
use Rattle.eac_net.specs.Items.{Ran}
use Rattle.eac_net.specs.Moment.{Meanings, means}
use Rattle.eac_net.specs.Packets.{packet_at, next_number}
use Rattle.eac_net.specs.State.{Standing}
use Rattle.eac_net.specs.Untold.{Says}
use Rattle.eac_net.specs.Verdicts.{Verdict}
use Rattle.eac_net.specs.declared.answer.Answer.{Answer}
use Rattle.eac_net.specs.declared.answer.Answer.TheVariants as answers
use Rattle.eac_net.specs.declared.event.Event.{Event}
use Rattle.eac_net.specs.declared.event.Event.TheVariants as events
use Rattle.eac_net.specs.declared.packet.Packet.{Packet}
use Rattle.eac_cli.specs.Steps.{has_line}

-- it isn't the answer without a text
abbrev pub Speaks : Option Answer → Type 0
Speaks None = Unit {0}
Speaks (Some answers.Silent) = ⊥
Speaks (Some (answers.Registered reference answer)) = Unit {0}
Speaks (Some (answers.Founded answer)) = Unit {0}
Speaks (Some (answers.Linked answer)) = Unit {0}
Speaks (Some (answers.Trusted answer)) = Unit {0}
Speaks (Some (answers.Applied answer)) = Unit {0}
Speaks (Some (answers.Sent packet)) = Unit {0}
Speaks (Some (answers.Failed f)) = Unit {0}
Speaks (Some (answers.Called event reply)) = Unit {0}
Speaks (Some (answers.Replied came)) = Unit {0}
Speaks (Some answers.Unsent) = Unit {0}
Speaks (Some (answers.Made made)) = Unit {0}
Speaks (Some (answers.Presented came)) = Unit {0}
Speaks (Some (answers.Imported came)) = Unit {0}
Speaks (Some (answers.Looked came)) = Unit {0}

-- ---- answers by what a call gave

fault_speaks : (f : HolderFault) → Speaks (fault_answer f)
fault_speaks fault.KeeperFault = tt
fault_speaks fault.ProviderFault = tt
fault_speaks (fault.NoKey reference) = tt
fault_speaks fault.NoMemory = tt

by_result : {A : Type 0} (f : A → Answer) → ((a : A) → Speaks (Some (f a))) → (r : Result A HolderFault) → Speaks (answer_by f r)
by_result f h (Ok a) = h a
by_result f h (Err e) = fault_speaks e

outcome_speaks : (reference : List ℕ) (outcome : Outcome (List ℕ) Rule RegisterFault) → Speaks (outcome_answer reference outcome)
outcome_speaks reference (Issued day) = tt
outcome_speaks reference (Kept day) = tt
outcome_speaks reference (Refused rule) = tt
outcome_speaks reference (Faulted f) = tt
outcome_speaks reference NoMemory = tt

served_speaks : (reply : ℕ) (served : Option Served) → Speaks (served_answer reply served)
served_speaks reply (Some s) = tt
served_speaks reply None = tt

took_speaks : (f : Option HolderFault) (r : Received) → Speaks (took_answer f r)
took_speaks None r = tt
took_speaks (Some fault.KeeperFault) r = tt
took_speaks (Some fault.ProviderFault) r = tt
took_speaks (Some (fault.NoKey reference)) r = tt
took_speaks (Some fault.NoMemory) r = tt

ends_speak : (s : Standing) (answer : Option Answer) (s' : Standing) (said : Option Answer) (sent : List Packet) → Speaks said → Ends s answer s' said sent → Speaks answer
ends_speak s answer s' said sent speaks (inl e) = subst Speaks (sym e.told) speaks
ends_speak s answer s' said sent speaks (inr e) = subst Speaks (sym e.told) tt

-- ---- a delivery, by what came

module _ (setup : SetupValue) (m : Meanings) (s : Standing) (answer : Option Answer) (asked : List Verdict) (s' : Standing) where
  arrives_speak : (found : Option Packet) (came : Arrival) → ArrivesSo setup m s answer asked s' found came → Speaks answer
  arrives_speak (Some p) (AsksCertificate id request) x = ends_speak s answer s' _ _ (served_speaks (next_number s.packets) _) x.event.ends
  arrives_speak (Some p) (AsksList id) x = ends_speak s answer s' _ _ (served_speaks (next_number s.packets) _) x.event.ends
  arrives_speak (Some p) (Brings id certificates) x = ends_speak s answer s' _ _ (served_speaks (next_number s.packets) _) x.event.ends
  arrives_speak (Some p) (BringsBack certificates) x = ends_speak s answer s' _ _ (took_speaks x.event.received.fault x.event.received) x.event.ends
  arrives_speak (Some p) NoCall x = ends_speak s answer s' _ _ tt x.event.ends
  arrives_speak (Some p) (IsDeclined id) x = ends_speak s answer s' _ _ tt x.event.ends
  arrives_speak (Some p) NoReply x = ends_speak s answer s' _ _ tt x.event.ends
  arrives_speak (Some p) (Notes code) x = ends_speak s answer s' _ _ tt x.event.ends
  arrives_speak (Some p) NotSent x = absurd x
  arrives_speak None came x = ends_speak s answer s' _ _ tt x.event.ends

  delivery_speaks : (packet : ℕ) → DeliverAnswers setup m s answer asked s' packet → Speaks answer
  delivery_speaks packet (inl x) = subst Speaks (sym x.event.0) tt
  delivery_speaks packet (inr x) = arrives_speak (packet_at s.packets packet) (arrival setup (packet_at s.packets packet)) x

-- ---- an event of a chip

told_speaks : (answer said : Option Answer) → IsTold answer said → Speaks said → Speaks answer
told_speaks answer said (inl e) speaks = subst Speaks (sym e) speaks
told_speaks answer said (inr e) speaks = subst Speaks (sym e) tt

by_call : {A E : Type 0} (f : A → Answer) → ((a : A) → Speaks (Some (f a))) → (r : Result A E) → Speaks (told_by f r)
by_call f h (Ok a) = h a
by_call f h (Err e) = tt

end_speaks : (answer said : Option Answer) (left s' : ChipPart) → EndsAt answer said left s' → Speaks said → Speaks answer
end_speaks answer said left s' e speaks = told_speaks answer said e.told speaks

make_speaks : (day : ℕ) (handed : Handed) (s : ChipPart) (answer : Option Answer) (s' : ChipPart) → MakesBy day handed s answer s' → Speaks answer
make_speaks day Unasked s answer s' m = end_speaks answer _ _ s' m tt
make_speaks day (Certs request certs) s answer s' m = told_speaks answer _ m.told (by_call answers.Made (λ a. tt) m.result)
make_speaks day (NoneFor request) s answer s' m = end_speaks answer _ _ s' m tt
make_speaks day (KeeperFailed request) s answer s' m = end_speaks answer _ _ s' m tt
make_speaks day (NoRoom request) s answer s' m = end_speaks answer _ _ s' m tt

show_speaks : (chip : ℕ) (hand : InHand) (handed : Handed) (answer : Option Answer) (s' : ChipPart) → ShowsBy chip hand handed answer s' → Speaks answer
show_speaks chip hand Unasked answer s' m = end_speaks answer _ _ s' m tt
show_speaks chip hand (Certs request certs) answer s' m = told_speaks answer _ m.told (by_call shown_as (λ a. tt) m.result)
show_speaks chip hand (NoneFor request) answer s' m = end_speaks answer _ _ s' m tt
show_speaks chip hand (KeeperFailed request) answer s' m = end_speaks answer _ _ s' m tt
show_speaks chip hand (NoRoom request) answer s' m = end_speaks answer _ _ s' m tt

present_speaks : (chip terminal : ℕ) (s : ChipPart) (handed : Handed) (answer : Option Answer) (s' : ChipPart) → PresentTurn chip terminal s handed answer s' → Speaks answer
present_speaks chip terminal s handed answer s' (inl p) = show_speaks chip _ handed answer s' p.shows
present_speaks chip terminal s handed answer s' (inr (inl p)) = told_speaks answer _ p.told tt
present_speaks chip terminal s handed answer s' (inr (inr p)) = subst Speaks (sym p.none) tt

turn_speaks : (day : ℕ) (event : Event) (handed : Handed) (answer : Option Answer) (s s' : ChipPart) → ChipTurn day event handed answer s s' → Speaks answer
turn_speaks day (events.Make chip authority) handed answer s s' t = make_speaks day handed s answer s' t.makes
turn_speaks day (events.Present chip terminal) handed answer s s' t = present_speaks chip terminal s handed answer s' t
turn_speaks day (events.Import chip bytes) handed answer s s' t = told_speaks answer _ t.told (by_call answers.Imported (λ a. tt) t.result)
turn_speaks day (events.Look chip) handed answer s s' t = told_speaks answer _ t.told (by_call answers.Looked (λ a. tt) t.result)
turn_speaks day (events.Day today) handed answer s s' t = absurd t
turn_speaks day (events.Ask reference bytes) handed answer s s' t = absurd t
turn_speaks day (events.Found authority) handed answer s s' t = absurd t
turn_speaks day (events.Link authority) handed answer s s' t = absurd t
turn_speaks day (events.Trust party authority) handed answer s s' t = absurd t
turn_speaks day (events.Apply holder authority root) handed answer s s' t = absurd t
turn_speaks day (events.Fetch party desk) handed answer s s' t = absurd t
turn_speaks day (events.Send from to bytes) handed answer s s' t = absurd t
turn_speaks day (events.Push desk party) handed answer s s' t = absurd t
turn_speaks day (events.Deliver packet) handed answer s s' t = absurd t

chip_speaks : (chip : ℕ) (i : Ran) → OfChip chip i → Speaks i.answer
chip_speaks chip i c = turn_speaks c.turn.day i.event i.handed i.answer _ _ c.turn.turn

-- ---- any event

module _ (setup : SetupValue) (i : Ran) where
  abbrev SaysHere : Event → Type 0
  SaysHere event = Says setup (means i.from i.to) i.from.parties event i.answer i.asked i.to.parties

  abbrev EndsHere : Option Answer → List Packet → Type 0
  EndsHere said sent = Ends i.from.parties i.answer i.to.parties said sent

  so : (said : Option Answer) (sent : List Packet) → Speaks said → EndsHere said sent → Speaks i.answer
  so said sent speaks e = ends_speak i.from.parties i.answer i.to.parties said sent speaks e

  pub says_speaks : (event : Event) → has_line event ≡ true → SaysHere event → ChipSays event i → Speaks i.answer
  says_speaks (events.Day day) line x c = absurd (cc)
  says_speaks (events.Ask reference bytes) line x c = subst Speaks (sym x.event.told) (outcome_speaks reference x.event.outcome)
  says_speaks (events.Found authority) line x c = so _ _ (by_result answers.Founded (λ a. tt) x.event.event.result) x.event.event.ends
  says_speaks (events.Link authority) line x c = so _ _ (by_result answers.Linked (λ a. tt) x.event.event.result) x.event.event.ends
  says_speaks (events.Trust party authority) line x c = so _ _ (by_result answers.Trusted (λ a. tt) x.event.result) x.event.ends
  says_speaks (events.Apply holder authority root) line x c = so _ _ (by_result _ (λ a. tt) x.event.event.result) x.event.event.ends
  says_speaks (events.Fetch party desk) line x c = so _ _ tt x.event.ends
  says_speaks (events.Push desk party) line x c = so _ _ (by_result _ (λ a. tt) x.event.result) x.event.ends
  says_speaks (events.Send from to bytes) line x c = so _ _ tt x.event.ends
  says_speaks (events.Deliver packet) line x c = delivery_speaks setup (means i.from i.to) i.from.parties i.answer i.asked i.to.parties packet x
  says_speaks (events.Make chip authority) line x c = chip_speaks chip i c
  says_speaks (events.Present chip terminal) line x c = chip_speaks chip i c
  says_speaks (events.Import chip bytes) line x c = chip_speaks chip i c
  says_speaks (events.Look chip) line x c = chip_speaks chip i c

  pub says_silent : (event : Event) → has_line event ≡ false → SaysHere event → i.answer ≡ Some answers.Silent
  says_silent (events.Day day) line x = x.event.0
  says_silent (events.Ask reference bytes) line x = absurd (cc)
  says_silent (events.Found authority) line x = absurd (cc)
  says_silent (events.Link authority) line x = absurd (cc)
  says_silent (events.Trust party authority) line x = absurd (cc)
  says_silent (events.Apply holder authority root) line x = absurd (cc)
  says_silent (events.Fetch party desk) line x = absurd (cc)
  says_silent (events.Push desk party) line x = absurd (cc)
  says_silent (events.Send from to bytes) line x = absurd (cc)
  says_silent (events.Deliver packet) line x = absurd (cc)
  says_silent (events.Make chip authority) line x = absurd (cc)
  says_silent (events.Present chip terminal) line x = absurd (cc)
  says_silent (events.Import chip bytes) line x = absurd (cc)
  says_silent (events.Look chip) line x = absurd (cc)
