-- How an event ended, by what came of it and how it was concluded.
use Rattle.std.proofs.Common.{◌≡◌, ℕ, List, [], ◌++◌, Some, None, Ok, Err, inl, inr, refl, sym, ap, ◌∙◌, subst, append-nil}
use Rattle.std.specs.declared.option.Option.{Option}
use Rattle.std.specs.declared.result.Result.{Result}
use Rattle.std.proofs.lemmas.List.Elements.{All-append}
use Rattle.policy_limits.specs.Setup.{SetupValue}
use Rattle.eac_net.specs.Answers.{Tells, Concludes}
use Rattle.eac_net.specs.Ending.{EndsSo, Ends}
use Rattle.eac_net.specs.Packets.{IsBetween, AreBetween}
use Rattle.eac_net.specs.State.{Standing}
use Rattle.eac_net.specs.Steps.{Said}
use Rattle.eac_net.specs.declared.answer.Answer.{Answer}
use Rattle.eac_net.specs.declared.answer.Happened.{Happened}
use Rattle.eac_net.specs.declared.packet.Packet.{Packet}
use Rattle.eac_net.specs.declared.world.World.{World}

-- what stands, with this day and these packets
abbrev pub with_counts : World → (keeper provider : ℕ) → Standing
with_counts w keeper provider = record { day = w.day; keeper = keeper; provider = provider; packets = w.packets }

-- the answer that was told, and that it was said
pub record IsConcluded {F : Type 0} (s s' : Standing) (said : Option Answer) (sent : List Packet) (r : Result (Unit {0}) F) (line line' : List ℕ) : Type 0 where
  pub answer : Option Answer
  pub ends : Ends s answer s' said sent
  pub told : Said r answer line line'

module _ (w w' : World) (keeper keeper' provider provider' : ℕ) (said : Option Answer) (sent : List Packet) where
  pub concluded : {E F : Type 0} (happened : Result Happened E) (r : Result (Unit {0}) F) (line line' : List ℕ) →
      Concludes happened r w w' line line' → Tells happened said sent →
      IsConcluded (with_counts w keeper provider) (with_counts w' keeper' provider') said sent r line line'
  concluded (Ok h) (Ok u) line line' c t = record {
    answer = Some h.answer;
    ends = inl (record { day = c.day; told = sym t.0; packets = c.ends.0 ∙ ap (λ (l : List Packet). w.packets ++ l) (sym t.1) });
    told = c.ends.1;
  }
  concluded (Err e) (Ok u) line line' c t = absurd c.ends
  concluded (Ok h) (Err e) line line' c t = record {
    answer = None;
    ends = inr (record { day = c.day; told = refl; packets = c.ends.0 ∙ sym (append-nil w.packets) });
    told = c.ends.1;
  }
  concluded (Err e) (Err f) line line' c t = record {
    answer = None;
    ends = inr (record { day = c.day; told = refl; packets = c.ends.0 ∙ sym (append-nil w.packets) });
    told = c.ends.1;
  }

-- ---- packets stay between parties

between_so : (setup : SetupValue) (s s' : Standing) (answer said : Option Answer) (sent : List Packet) → AreBetween setup s.packets → AreBetween setup sent →
    EndsSo s answer s' said sent → AreBetween setup s'.packets
between_so setup s s' answer said sent was new e = subst (AreBetween setup) (sym e.packets) (All-append (IsBetween setup) s.packets sent was new)

pub between_after : (setup : SetupValue) (s s' : Standing) (answer said : Option Answer) (sent : List Packet) → AreBetween setup s.packets → AreBetween setup sent → AreBetween setup [] →
    Ends s answer s' said sent → AreBetween setup s'.packets
between_after setup s s' answer said sent was new none (inl e) = between_so setup s s' answer said sent was new e
between_after setup s s' answer said sent was new none (inr e) = between_so setup s s' answer None [] was none e

pub same_day : (s s' : Standing) (answer said : Option Answer) (sent : List Packet) → Ends s answer s' said sent → s'.day ≡ s.day
same_day s s' answer said sent (inl e) = e.day
same_day s s' answer said sent (inr e) = e.day
