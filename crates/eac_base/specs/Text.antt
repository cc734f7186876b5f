-- Lines, words and numbers of a plain text.
use Rattle.std.specs.Prelude.{ℕ, ◌+◌, ◌-◌, ◌*◌, List, [], ◌∷◌, filter, Bool, true, false, not, ◌&&◌, ◌||◌, ◌==◌, Option, Some, None, if◌then◌else◌}
use Rattle.std.specs.List.{list_all, slice_split, enumerate_from}
use Rattle.std.specs.Str.Lines.{lines}
use Rattle.std.specs.Str.Parse.{digits_value}
use Rattle.eac_base.specs.Bytes.{is_within, is_empty}

-- ---- lines

-- A line is passed over where it has no bytes or begins with `#`.
abbrev pub is_passed_over : List ℕ → Bool
is_passed_over [] = true
is_passed_over (b ∷ line) = b == 35

-- The other lines, each with its number from 1. A line ends with a line feed or at the end of the text; a carriage
-- return before the line feed is no part of it.
abbrev pub numbered_lines : List ℕ → List (ℕ × List ℕ)
numbered_lines text = filter (λ l. not (is_passed_over l.1)) (enumerate_from 1 (lines text))

-- ---- words

abbrev pub is_word_byte : ℕ → Bool
is_word_byte b = is_within 0x21 0x7e b || is_within 0xa1 0xff b

abbrev pub is_word : List ℕ → Bool
is_word w = not (is_empty w) && list_all is_word_byte w

-- The words of a line: what stands between single spaces. None where something else stands in the line.
abbrev pub words : List ℕ → Option (List (List ℕ))
words line = if list_all is_word (slice_split (λ b. b == 32) line) then Some (slice_split (λ b. b == 32) line) else None

-- ---- numbers

abbrev pub is_digit : ℕ → Bool
is_digit b = is_within 48 57 b

-- Decimal digits without leading zeros.
abbrev pub is_decimal : List ℕ → Bool
is_decimal [] = false
is_decimal (d ∷ []) = is_digit d
is_decimal (d ∷ e ∷ digits) = is_within 49 57 d && is_digit e && list_all is_digit digits

abbrev pub decimal_of : List ℕ → Option ℕ
decimal_of w = if is_decimal w then Some (digits_value 10 w) else None

-- Hexadecimal digits of either case.
abbrev pub hex_value : ℕ → Option ℕ
hex_value b = if is_digit b then Some (b - 48)
    else (if is_within 65 70 b then Some (b - 55) else (if is_within 97 102 b then Some (b - 87) else None))

abbrev pub byte_of : Option ℕ → Option ℕ → Option (List ℕ) → Option (List ℕ)
byte_of (Some high) (Some low) (Some rest) = Some ((16 * high + low) ∷ rest)
byte_of None low rest = None
byte_of (Some high) None rest = None
byte_of (Some high) (Some low) None = None

-- The bytes that an even number of such digits says.
abbrev pub hex_bytes : List ℕ → Option (List ℕ)
hex_bytes [] = Some []
hex_bytes (a ∷ []) = None
hex_bytes (a ∷ b ∷ rest) = byte_of (hex_value a) (hex_value b) (hex_bytes rest)
