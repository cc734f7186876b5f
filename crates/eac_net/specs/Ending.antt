-- How an event ends (this project's own).
use Rattle.std.specs.Prelude.{◌≡◌, ◌⊎◌, ℕ, List, [], ◌++◌, Option, Some, None, Result}
use Rattle.keeper.specs.declared.rows.Row.{Row}
use Rattle.holder_core.specs.Faults.{HolderCause, KeeperCaused}
use Rattle.holder_core.specs.declared.fault.HolderFault.{HolderFault}
use Rattle.eac_net.specs.Losing.{Losing}
use Rattle.eac_net.specs.State.{State, Standing, moved}
use Rattle.eac_net.specs.declared.answer.Answer.{Answer}
use Rattle.eac_net.specs.declared.packet.Packet.{Packet}

-- ---- from what stood before to what stands after, with an answer or in want of memory

module _ (s : Standing) (answer : Option Answer) (s' : Standing) where
  -- with this answer, and these packets sent
  pub record EndsSo (said : Option Answer) (sent : List Packet) : Type 0 where
    pub day : s'.day ≡ s.day
    pub told : answer ≡ said
    pub packets : s'.packets ≡ s.packets ++ sent

  -- the same, or in want of memory for them, and then nothing was sent
  abbrev pub Ends : Option Answer → List Packet → Type 0
  Ends said sent = EndsSo said sent ⊎ EndsSo None []

  -- neither keeper nor provider was called
  pub record Idles (said : Option Answer) (sent : List Packet) : Type 0 where
    pub ends : Ends said sent
    pub keeper : s'.keeper ≡ s.keeper
    pub provider : s'.provider ≡ s.provider

  -- One call of a party, with what it did. Its faults have their causes, and by its result it is told and packets are sent.
  module _ {A : Type 0} (said : Result A HolderFault → Option Answer) (sent : Result A HolderFault → List Packet)
      (Does : Result A HolderFault → Type 0) where
    -- whose key may be missing is said by its row's reference
    pub record Acts (missing : List ℕ → Type 0) : Type 0 where
      pub result : Result A HolderFault
      pub does : Does result
      pub cause : HolderCause missing (s.keeper, s'.keeper) (s.provider, s'.provider) result
      pub ends : Ends (said result) (sent result)

    -- one that has no provider
    pub record KeeperActs : Type 0 where
      pub result : Result A HolderFault
      pub does : Does result
      pub cause : KeeperCaused s.keeper s'.keeper result
      pub provider : s'.provider ≡ s.provider
      pub ends : Ends (said result) (sent result)

-- on the day in force
pub record OnDay (s : Standing) (E : ℕ → Type 0) : Type 0 where
  pub day : ℕ
  pub today : s.day ≡ Some day
  pub event : E day

-- ---- from state to state

-- the rows, the counts and the packets became these, by this event
pub record Moves (s : State) (E : List Row → Standing → Type 0) (s' : State) : Type 0 where
  pub rows : List Row
  pub now : Standing
  pub event : E rows now
  pub next : s' ≡ moved s now rows

-- the same by an event that signs, and these pairs have no row
pub record Signs (s : State) (E : List Row → Standing → Losing → Type 0) (s' : State) : Type 0 where
  pub rows : List Row
  pub now : Standing
  pub losing : Losing
  pub event : E rows now losing
  pub next : s' ≡ record (moved s now rows) { lost = s.lost ++ losing.lost; dropped = s.dropped ++ losing.dropped }

-- no row changed
pub record MovesOnly (s : State) (E : Standing → Type 0) (s' : State) : Type 0 where
  pub now : Standing
  pub event : E now
  pub next : s' ≡ moved s now s.rows
