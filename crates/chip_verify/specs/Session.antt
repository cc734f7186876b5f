-- What was verified since the chip was opened (BSI TR-03110-3, certificate verification; that a chip keeps the rights of
-- the trust point beside a verifier is this project's own).
use Rattle.std.specs.Prelude.{◌≡◌, ℕ, Option, Some, None, bit_and}
use Rattle.chip_verify.specs.declared.session.Verified.{Verified}

-- The last verifier, and the rights in the last terminal's certificate after it.
pub record SessionValue : Type 0 where
  pub verifier : Option Verified
  pub terminal : Option ℕ

abbrev pub no_session : SessionValue
no_session = record { verifier = None; terminal = None }

-- There is a terminal only beside a verifier.
abbrev pub IsBeside : Option Verified → Option ℕ → Type 0
IsBeside (Some v) terminal = Unit {0}
IsBeside None terminal = terminal ≡ None

abbrev pub granted_by : Option Verified → Option ℕ → Option ℕ
granted_by (Some v) (Some rights) = Some (bit_and rights (bit_and v.template.rights v.root))
granted_by (Some v) None = None
granted_by None terminal = None

-- The rights that stand in the session's terminal, its verifier and that verifier's root.
abbrev pub granted : SessionValue → Option ℕ
granted s = granted_by s.verifier s.terminal
