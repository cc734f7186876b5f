-- The rows of a run as its events leave them (this project's own).
use Rattle.std.specs.Prelude.{◌≡◌, ℕ, List, Some, IsTrue}
use Rattle.policy_limits.specs.Setup.{SetupValue, party, is_authority}
use Rattle.policy_limits.specs.declared.party.Party.{Party}
use Rattle.keeper.specs.declared.rows.Row.{Row}
use Rattle.issue_core.specs.Issuing.Rows.{AreReadable}
use Rattle.holder_core.specs.Lawful.{AreNumbered, AreFounded}

-- They can be read again, each party's own rows are numbered, and each of an authority has a certificate that a trust point
-- can be made of.
pub record AreLawful (setup : SetupValue) (rows : List Row) : Type 0 where
  pub readable : AreReadable rows
  pub numbered : (desk : ℕ) (p : Party) → party setup desk ≡ Some p → AreNumbered desk p.holder rows
  pub founded : (desk : ℕ) (p : Party) → party setup desk ≡ Some p → IsTrue (is_authority p.kind) → AreFounded desk rows
