-- What the objects of an event tell at one moment (this project's own).
use Rattle.std.specs.Prelude.{◌≡◌, ◌++◌, ℕ, List, [], Option, None, IfSome}
use Rattle.signature_provider.specs.Provider.{Says, Holds, Signed}
use Rattle.signature_provider.specs.declared.provider.SignatureProvider.{Ghosts as ProviderOf}
use Rattle.policy_limits.specs.Setup.{SetupValue}
use Rattle.keeper.specs.declared.rows.Row.{Row}
use Rattle.keeper.specs.declared.keeping.Keeper.{Ghosts as KeeperOf}
use Rattle.chip_slots.specs.declared.disk.ChipDisk.{Ghosts as DiskOf}
use Rattle.chip_events.specs.DiskTurns.{DiskKnown}
use Rattle.eac_net.specs.Chips.{known_of}
use Rattle.eac_net.specs.Counts.{count_at}
use Rattle.eac_net.specs.Lawful.{AreLawful}
use Rattle.eac_net.specs.Made.{all_made, AreGood}
use Rattle.eac_net.specs.Moment.{Moment, AllHeld}
use Rattle.eac_net.specs.State.{State, standing_of}
use Rattle.eac_net.specs.Tracing.{AllTraced}
use Rattle.eac_net.specs.declared.packet.Packet.{Packet}
use Rattle.eac_net.specs.declared.world.World.{World}

-- Rows stand where the keeper tells them. The counts say how often a call of the object has failed.
pub record Outside : Type 0 where
  -- the keeper's rows
  pub rows : Option (List Row)
  pub keeper_faults : ℕ
  -- what the provider says, which keys it holds, and what it signed
  pub says : Says
  pub holds : Holds
  pub signed : Signed
  pub provider_faults : ℕ
  -- what is known of each chip's disk
  pub disks : ℕ → DiskKnown

abbrev pub outside : {B P : Type 0} → KeeperOf B → ProviderOf P → (ℕ → DiskKnown) → B → P → Outside
outside B P disks keeper provider = record {
  rows = B.rows keeper;
  keeper_faults = B.faults keeper;
  says = P.says provider;
  holds = P.holds provider;
  signed = P.signed provider;
  provider_faults = P.faults provider;
  disks = disks;
}

-- the same with this keeper
abbrev pub kept_by : {B : Type 0} → KeeperOf B → B → Outside → Outside
kept_by B keeper o = record o { rows = B.rows keeper; keeper_faults = B.faults keeper }

-- with this provider
abbrev pub provided_by : {P : Type 0} → ProviderOf P → P → Outside → Outside
provided_by P provider o = record o {
  says = P.says provider;
  holds = P.holds provider;
  signed = P.signed provider;
  provider_faults = P.faults provider;
}

-- with these disks
abbrev pub over_disks : {D : Type 0} → DiskOf D → List D → Outside → Outside
over_disks D disks o = record o { disks = known_of D disks }

-- ---- what is known at a moment whatever is told

abbrev pub moment_of : Option ℕ → List Packet → (imports : ℕ → ℕ) → Outside → Moment
moment_of day packets imports o = record {
  parties = record { day = day; keeper = o.keeper_faults; provider = o.provider_faults; packets = packets };
  disks = o.disks;
  imports = imports;
  says = o.says;
  holds = o.holds;
  signed = o.signed;
}

abbrev pub moment_at : World → Outside → Moment
moment_at w o = moment_of w.day w.packets (count_at w.imports) o

-- no day, no packet and no import
abbrev pub first_moment : Outside → Moment
first_moment o = moment_of None [] (λ chip. 0) o

-- ---- where the keeper tells these rows

-- The state is that of the objects. The rows are lawful, the key of each own row is held, and each signature that events
-- made is one that the provider says.
pub record IsAt (setup : SetupValue) (w : World) (o : Outside) (rows : List Row) (s : State) : Type 0 where
  pub standing : standing_of s ≡ (moment_at w o).parties
  pub rows_are : s.rows ≡ rows
  pub lawful : AreLawful setup rows
  pub held : AllHeld o.holds rows
  pub good : AreGood o.says (all_made setup rows)

-- Whatever was signed that is a certificate's body has its row, or is among the pairs without one.
abbrev pub IsTracedAt : Outside → List Row → State → Type 0
IsTracedAt o rows s = IfSome o.signed (λ pairs. AllTraced rows (s.lost ++ s.dropped) pairs)
