-- What a delivery is by the packet that came, and the objects around it.
use Rattle.chip_events.specs.DiskTurns.{DiskKnown}
use Rattle.std.proofs.Common.{◌≡◌, ℕ, Bool, true, false, cond, List, [], ◌∷◌, Some, None, inr, refl, sym, subst, nat_eq}
use Rattle.std.specs.Prelude.{IfSome, slice_get, ◌-◌}
use Rattle.std.specs.declared.option.Option.{Option}
use Rattle.std.specs.List.{All}
use Rattle.std.proofs.lemmas.List.Elements.{All-nil, All-cons, All-get_or}
use Rattle.std.proofs.lemmas.Option.{slice_get_within, get_or_from_slice_get}
use Rattle.eac_base.specs.Telling.{Told}
use Rattle.eac_messages.specs.declared.reply.Reply.{Reply}
use Rattle.policy_limits.specs.Setup.{SetupValue}
use Rattle.desk_core.specs.Serving.{Moment as Around}
use Rattle.desk_core.specs.declared.served.Served.{Served}
use Rattle.eac_net.specs.Arrival.{Arrival, arrival}
use Rattle.eac_net.specs.Delivered.{served_sent}
use Rattle.eac_net.specs.Delivering.{Arrives, ArrivesSo, DeliverTurn, DeliverAnswers}
use Rattle.eac_net.specs.Moment.{Meanings}
use Rattle.eac_net.specs.Objects.{Outside}
use Rattle.eac_net.specs.Packets.{packet_at, reply_to, IsBetween, AreBetween}
use Rattle.eac_net.specs.State.{State, Standing}
use Rattle.eac_net.specs.Verdicts.{Verdict}
use Rattle.eac_net.specs.declared.answer.Answer.{Answer}
use Rattle.eac_net.specs.declared.packet.Packet.{Packet}

-- ---- the objects, by what keeper and provider tell

abbrev pub outside_of : (ℕ → DiskKnown) → Around → Outside
outside_of disks k = record {
  rows = k.keeper.rows;
  keeper_faults = k.keeper.faults;
  says = k.provider.says;
  holds = k.provider.holds;
  signed = k.provider.signed;
  provider_faults = k.provider.faults;
  disks = disks;
}

-- ---- the packet

module _ (setup : SetupValue) (number : ℕ) (packets : List Packet) (p : Option Packet) (came : Arrival) where
  -- it is that of the number
  pub record IsThat : Type 0 where
    pub packet : packet_at packets number ≡ p
    pub came_is : arrival setup (packet_at packets number) ≡ came

  module _ (that : IsThat) (m : Meanings) (answer : Option Answer) where
    pub says_that : (s : Standing) (asked : List Verdict) (s' : Standing) → s.packets ≡ packets → ArrivesSo setup m s answer asked s' p came → DeliverAnswers setup m s answer asked s' number
    says_that s asked s' is h = inr (subst (λ (l : List Packet). ArrivesSo setup m s answer asked s' (packet_at l number) (arrival setup (packet_at l number))) (sym is)
        (subst (λ (x : Option Packet × Arrival). ArrivesSo setup m s answer asked s' x.0 x.1) (λ j. (sym that.packet j, sym that.came_is j)) h))

    pub turns_that : (s s' : State) → s.packets ≡ packets → Arrives setup m s p came answer s' → DeliverTurn setup m s number answer s'
    turns_that s s' is h = inr (subst (λ (l : List Packet). Arrives setup m s (packet_at l number) (arrival setup (packet_at l number)) answer s') (sym is)
        (subst (λ (x : Option Packet × Arrival). Arrives setup m s x.0 x.1 answer s') (λ j. (sym that.packet j, sym that.came_is j)) h))

-- ---- packets between parties

got : {X : Type 0} (P : X → Type 0) (xs : List X) (i : ℕ) (found : Option X) → slice_get xs i ≡ found → All P xs → IfSome found P
got P xs i None is all = tt
got P xs i (Some x) is all = subst P (get_or_from_slice_get xs i x x is) (All-get_or P xs i x (slice_get_within xs i x is) all)

pub at_between : (setup : SetupValue) (packets : List Packet) (number : ℕ) → AreBetween setup packets → IfSome (packet_at packets number) (IsBetween setup)
at_between setup packets number all = go (nat_eq number 0)
  where
    go : (b : Bool) → IfSome (cond b None (slice_get packets (number - 1))) (IsBetween setup)
    go true = tt
    go false = got (IsBetween setup) packets (number - 1) (slice_get packets (number - 1)) refl all

pub reply_between : (setup : SetupValue) (p : Packet) (reply : Reply) → IsBetween setup p → AreBetween setup (reply_to p reply ∷ [])
reply_between setup p reply between = All-cons (IsBetween setup) (reply_to p reply) [] (record { sender = between.receiver; receiver = between.sender }) (All-nil (IsBetween setup))

pub served_between : (setup : SetupValue) (p : Packet) (due : Option Served) → IsBetween setup p → AreBetween setup (served_sent p due)
served_between setup p None between = All-nil (IsBetween setup)
served_between setup p (Some s) between = reply_between setup p s.reply between

-- ---- what is told

-- with what was told before
pub told_known : {A : Type 0} (P Q : A → A → Type 0) (a b : Option A) → Told a b P → ((x y : A) → a ≡ Some x → P x y → Q x y) → Told a b Q
told_known P Q a None t f = tt
told_known P Q None (Some y) t f = absurd t
told_known P Q (Some x) (Some y) t f = f x y refl t

pub told_both : {A : Type 0} (P Q : A → A → Type 0) (a b : Option A) → Told a b P → Told a b Q → Told a b (λ x y. P x y × Q x y)
told_both P Q a None t u = tt
told_both P Q None (Some y) t u = absurd t
told_both P Q (Some x) (Some y) t u = (t, u)

pub law_of : {A : Type 0} (L : A → Type 0) (a : Option A) (x : A) → a ≡ Some x → IfSome a L → L x
law_of L a x is l = subst (λ (o : Option _). IfSome o L) is l
