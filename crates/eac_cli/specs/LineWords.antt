-- Words of event lines (this project's own).
use Rattle.std.specs.Prelude.{ℕ, List, [], ◌∷◌, length, nat_le, Option, None, Result, Ok, Err, if◌then◌else◌}
use Rattle.std.specs.Option.{option_map}
use Rattle.std.specs.Result.{result_ok}
use Rattle.eac_base.specs.Answers.{◌>>=◌, some_or}
use Rattle.eac_base.specs.Text.{hex_bytes}
use Rattle.holder_reference.specs.Reference.{read_holder}
use Rattle.plain_text.specs.Lines.{one_word, two_words}
use Rattle.eac_cli.specs.declared.line_rule.LineRule.{LineRule}
use Rattle.eac_cli.specs.declared.line_rule.LineRule.TheVariants.{Grammar, Limit}

-- ---- names of parties

abbrev pub holder_of : List ℕ → Result (List ℕ) LineRule
holder_of word = some_or (result_ok (read_holder word)) Grammar

abbrev pub one_holder : List (List ℕ) → Result (List ℕ) LineRule
one_holder rest = some_or (one_word rest) Grammar >>= holder_of

abbrev pub both_holders : List ℕ → List ℕ → Result (List ℕ × List ℕ) LineRule
both_holders first second = holder_of first >>= λ a. holder_of second >>= λ b. Ok (a, b)

abbrev pub two_holders : List (List ℕ) → Result (List ℕ × List ℕ) LineRule
two_holders rest = some_or (two_words rest) Grammar >>= λ w. both_holders w.0 w.1

-- just three words
abbrev pub three_words : List (List ℕ) → Option (List ℕ × List ℕ × List ℕ)
three_words [] = None
three_words (word ∷ rest) = option_map (λ w. (word, w.0, w.1)) (two_words rest)

-- ---- HEX

-- It says 4,096 bytes at most.
abbrev pub within : List ℕ → Result (List ℕ) LineRule
within bytes = if nat_le (length bytes) 4096 then Ok bytes else Err Limit

abbrev pub bytes_of : List ℕ → Result (List ℕ) LineRule
bytes_of hex = some_or (hex_bytes hex) Grammar >>= within
