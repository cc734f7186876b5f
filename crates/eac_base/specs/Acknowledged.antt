-- Acknowledged imports (this project's own).
use Rattle.std.specs.Prelude.{ℕ, List}
use Rattle.eac_base.specs.declared.acks.Ack.{Ack}

-- the acknowledgements in order, and for how many more there is room
pub record AcksValue : Type 0 where
  pub acks : List Ack
  pub room : ℕ
