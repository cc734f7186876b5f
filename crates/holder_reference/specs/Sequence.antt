-- Sequences that count (how they count is this project's own; BSI TR-03110-3 also has sequences with letters).
use Rattle.std.specs.Prelude.{◌≡◌, ℕ, ◌+◌, ◌/◌, ◌%◌, ◌<◌, ◌==◌, List, [], ◌∷◌, length, Bool, ◌&&◌, nat_lt, if◌then◌else◌, Option, Some, None}
use Rattle.std.specs.List.{list_all, list_any}
use Rattle.std.specs.Str.Parse.{digits_value}
use Rattle.eac_base.specs.Text.{is_digit}
use Rattle.holder_reference.specs.Reference.{is_capital}

-- A number below 100,000 in five decimal digits.
abbrev pub five_digits : ℕ → List ℕ
five_digits n =
    (48 + n / 10000 % 10) ∷ (48 + n / 1000 % 10) ∷ (48 + n / 100 % 10) ∷ (48 + n / 10 % 10) ∷ (48 + n % 10) ∷ []

-- The sequence of this number.
abbrev pub IsNumber : List ℕ → ℕ → Type 0
IsNumber sequence n = (n < 100000) × (sequence ≡ five_digits n)

-- A sequence without a letter.
abbrev pub is_decimal_sequence : List ℕ → Bool
is_decimal_sequence sequence = (length sequence == 5) && list_all is_digit sequence

abbrev pub has_letter : List ℕ → Bool
has_letter sequence = list_any is_capital sequence

-- The number that a decimal sequence says.
abbrev pub number_said : List ℕ → ℕ
number_said sequence = digits_value 10 sequence

-- The sequence of one more. None follows 99999, nor a sequence with a letter.
abbrev pub next_sequence : List ℕ → Option (List ℕ)
next_sequence sequence =
    if is_decimal_sequence sequence && nat_lt (number_said sequence) 99999 then Some (five_digits (number_said sequence + 1))
    else None
