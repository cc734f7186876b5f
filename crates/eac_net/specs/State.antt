-- The state of a run: plain data (this project's own). What more events bring stands in further fields at the end. Each
-- turn says what it changes by a record update, so that no earlier line is written again.
use Rattle.std.specs.Prelude.{◌==◌, ℕ, List, [], ◌∷◌, ◌++◌, Option, None, if◌then◌else◌}
use Rattle.keeper.specs.declared.rows.Row.{Row}
use Rattle.issue_core.specs.declared.rule.Rule.{Rule}
use Rattle.issue_core.specs.Registering.Desk.{Asked, RegisterFault}
use Rattle.issue_core.specs.Issuing.Desk.{IssueDelivery}
use Rattle.issue_core.specs.Issuing.Signed.{Pair}
use Rattle.ledger.specs.Ledger.{Delivery}
use Rattle.eac_net.specs.Verdicts.{Verdict}
use Rattle.eac_net.specs.declared.packet.Packet.{Packet}

pub record State : Type 0 where
  -- the day in force, counted from 2000-01-01
  pub day : Option ℕ
  -- the keeper's rows
  pub rows : List Row
  -- the keeper's count of faults
  pub keeper : ℕ
  -- the deliveries to the plain register
  pub register : List (Delivery Asked (List ℕ) Rule RegisterFault)
  -- the provider's count of faults
  pub provider : ℕ
  -- the packets ever sent, the first being packet 1
  pub packets : List Packet
  -- the deliveries to each issuing desk
  pub desks : ℕ → List IssueDelivery
  -- what the provider was asked, and what it said
  pub verdicts : List Verdict
  -- pairs of key and text that were signed and have no row: after a fault of the keeper, and after want of memory
  pub lost : List Pair
  pub dropped : List Pair

-- Before the first event: no day, no packet, and nothing was delivered or asked. Rows and counts are those of the objects.
abbrev pub first_state : List Row → (keeper provider : ℕ) → State
first_state rows keeper provider = record {
  day = None;
  rows = rows;
  keeper = keeper;
  register = [];
  provider = provider;
  packets = [];
  desks = λ desk. [];
  verdicts = [];
  lost = [];
  dropped = [];
}

-- one more delivery to a desk
abbrev pub with_delivery : (ℕ → List IssueDelivery) → ℕ → IssueDelivery → ℕ → List IssueDelivery
with_delivery desks desk d other = if other == desk then desks other ++ d ∷ [] else desks other

-- ---- what is known between two events also where no rows are told

pub record Standing : Type 0 where
  pub day : Option ℕ
  pub keeper : ℕ
  pub provider : ℕ
  pub packets : List Packet

abbrev pub standing_of : State → Standing
standing_of s = record { day = s.day; keeper = s.keeper; provider = s.provider; packets = s.packets }

-- the state with these rows, counts and packets
abbrev pub moved : State → Standing → List Row → State
moved s now rows = record s { rows = rows; keeper = now.keeper; provider = now.provider; packets = now.packets }
