-- What differs by the type of terminal: the identifier of its roles, and how many access rights there are
-- (BSI TR-03110-3, appendix C).
use Rattle.std.specs.Prelude.{ℕ, ◌+◌, ◌/◌, ◌^◌, List, [], ◌∷◌, Bool, nat_lt}
use Rattle.chat_rights.specs.declared.Kind.{Kind}
use Rattle.chat_rights.specs.declared.Kind.TheVariants.{Inspection}

-- 0.4.0.127.0.7.3.1.2.1, the roles of inspection systems.
abbrev pub identifier_of : Kind → List ℕ
identifier_of Inspection = 0x04 ∷ 0x00 ∷ 0x7f ∷ 0x00 ∷ 0x07 ∷ 0x03 ∷ 0x01 ∷ 0x02 ∷ 0x01 ∷ []

-- The bits of rights below the two bits of the role.
abbrev pub rights_bits : Kind → ℕ
rights_bits Inspection = 6

-- The bytes that role and rights fill.
abbrev pub width_of : Kind → ℕ
width_of kind = (2 + rights_bits kind) / 8

-- The number has no other bits than the type's.
abbrev pub rights_fit : Kind → ℕ → Bool
rights_fit kind rights = nat_lt rights (2 ^ rights_bits kind)

-- What the rights of each type stay below.
abbrev pub rights_limit : ℕ
rights_limit = 64
