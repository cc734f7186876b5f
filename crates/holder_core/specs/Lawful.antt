-- Rows as the calls of parties leave them (this project's own).
use Rattle.std.specs.Prelude.{◌≡◌, ◌+◌, ◌||◌, ℕ, List, [], ◌∷◌, Option, Some, Ok, IsTrue, not}
use Rattle.std.specs.List.{All}
use Rattle.chat_rights.specs.declared.Role.TheVariants.{Cvca}
use Rattle.signature_provider.specs.Key.{has_domain, is_elliptic}
use Rattle.cvc_grammar.specs.declared.certificate.Cert.{Cert}
use Rattle.keeper.specs.declared.rows.Row.{Row}
use Rattle.keeper.specs.declared.rows.OwnPart.{OwnPart}
use Rattle.keeper.specs.declared.rows.Settled.{Settled}
use Rattle.holder_core.specs.Readings.{cert_of}
use Rattle.holder_core.specs.OwnRows.{own_rows, own_part}
use Rattle.holder_core.specs.Numbers.{numbered}

-- ---- numbers

-- the references of this holder's keys, numbered from this one on
abbrev pub NumberedFrom : List ℕ → ℕ → List Row → Type 0
NumberedFrom holder number [] = Unit {0}
NumberedFrom holder number (row ∷ rows) = (row.reference ≡ numbered holder number) × NumberedFrom holder (number + 1) rows

-- a party's own rows are those of its holder, in the order of adding
abbrev pub AreNumbered : ℕ → List ℕ → List Row → Type 0
AreNumbered desk holder rows = NumberedFrom holder 1 (own_rows desk rows)

-- ---- authorities

-- a certificate that a trust point can be made of
pub record IsFounding (settled : Settled) : Type 0 where
  pub cert : Cert
  pub read : cert_of settled.certificate ≡ Ok cert
  pub role : cert.body.template.role ≡ Cvca
  pub key : IsTrue (not (is_elliptic cert.body.key.algorithm) || has_domain cert.body.key)

pub record IsFounded (row : Row) : Type 0 where
  pub own : OwnPart
  pub settled : Settled
  pub part_is : own_part row.part ≡ Some own
  pub settled_is : own.settled ≡ Some settled
  pub founding : IsFounding settled

-- each own row of an authority has one
abbrev pub AreFounded : ℕ → List Row → Type 0
AreFounded desk rows = All IsFounded (own_rows desk rows)
