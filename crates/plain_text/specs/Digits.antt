-- Words that are digits (this project's own).
use Rattle.std.specs.Prelude.{ℕ, ◌^◌, nat_lt, List, [], ◌∷◌, Option, Some, None, if◌then◌else◌}
use Rattle.eac_base.specs.Answers.{◌gives◌}
use Rattle.eac_base.specs.Text.{decimal_of, hex_bytes}

-- A number that four bytes can hold.
abbrev pub in_four_bytes : ℕ → Option ℕ
in_four_bytes n = if nat_lt n (2 ^ 32) then Some n else None

-- Decimal digits without leading zeros that say such a number.
abbrev pub number_word : List ℕ → Option ℕ
number_word w = decimal_of w gives in_four_bytes

-- The byte, where there is just one.
abbrev pub only_byte : List ℕ → Option ℕ
only_byte [] = None
only_byte (b ∷ []) = Some b
only_byte (b ∷ c ∷ more) = None

-- Just two hexadecimal digits.
abbrev pub byte_word : List ℕ → Option ℕ
byte_word w = hex_bytes w gives only_byte
