-- What is known between two events, and what a provider means about one (this project's own).
use Rattle.std.specs.Prelude.{◌≡◌, ℕ, List, true, IfSome}
use Rattle.std.specs.List.{All}
use Rattle.signature_provider.specs.Provider.{Says, Holds, Signed, public_key}
use Rattle.keeper.specs.declared.rows.Row.{Row}
use Rattle.chip_events.specs.DiskTurns.{DiskKnown}
use Rattle.holder_core.specs.OwnRows.{own_part}
use Rattle.eac_net.specs.State.{Standing}

-- Day, packets and counts, each chip's disk by its counts with how many imports were made on the chip, and what the provider
-- says, holds and has signed.
pub record Moment : Type 0 where
  pub parties : Standing
  pub disks : ℕ → DiskKnown
  pub imports : ℕ → ℕ
  pub says : Says
  pub holds : Holds
  pub signed : Signed

-- what the provider said before an event and says after it, which keys it held and holds, and what it had and has signed
pub record Meanings : Type 0 where
  pub said : Says
  pub says : Says
  pub held : Holds
  pub holds : Holds
  pub signed : Signed × Signed

-- about an event between these two
abbrev pub means : Moment → Moment → Meanings
means a b = record { said = a.says; says = b.says; held = a.holds; holds = b.holds; signed = (a.signed, b.signed) }

-- the provider made no key and signed nothing
pub record IsStill (m : Meanings) : Type 0 where
  pub says : m.says ≡ m.said
  pub holds : m.holds ≡ m.held
  pub signed : m.signed.1 ≡ m.signed.0

-- the key of each own row is held
abbrev pub AllHeld : Holds → List Row → Type 0
AllHeld held rows = All (λ row. IfSome (own_part row.part) (λ own. held (public_key own.key) ≡ true)) rows
