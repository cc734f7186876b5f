-- Access rights as sets of bits (BSI TR-03110-3, appendix C: relative authorization).
use Rattle.std.specs.Prelude.{◌≡◌, ℕ, ◌+◌, ◌/◌, ◌%◌, List, [], ◌∷◌, if◌then◌else◌, nat_lt}
use Rattle.std.specs.Int.{bit_at}
use Rattle.chat_rights.specs.declared.Kind.{Kind}
use Rattle.chat_rights.specs.declared.Kind.TheVariants.{Inspection}

-- The right of this bit stands in the set.
abbrev pub Grants : ℕ → ℕ → Type 0
Grants rights bit = bit_at rights bit ≡ 1

-- ---- how rights are shown (this project's own)

-- 0 to 9, then A to F.
abbrev pub hex_digit : ℕ → ℕ
hex_digit d = if nat_lt d 10 then 48 + d else 55 + d

-- Two digits at an inspection system.
abbrev pub rights_text : Kind → ℕ → List ℕ
rights_text Inspection rights = hex_digit (rights / 16) ∷ hex_digit (rights % 16) ∷ []
