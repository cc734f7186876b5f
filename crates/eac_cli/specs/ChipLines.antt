-- Lines of events of chips (this project's own): `make CHIP AUTH`, `present CHIP TERMINAL`, `import CHIP HEX`, `look CHIP`.
use Rattle.std.specs.Prelude.{ℕ, List, nat_lt, Option, Some, None, Result, Ok, if◌then◌else◌}
use Rattle.eac_base.specs.Answers.{◌>>=◌, some_or}
use Rattle.eac_base.specs.Text.{decimal_of}
use Rattle.plain_text.specs.Lines.{one_word, two_words}
use Rattle.eac_cli.specs.LineWords.{holder_of, bytes_of}
use Rattle.eac_cli.specs.declared.line_rule.LineRule.{LineRule}
use Rattle.eac_cli.specs.declared.line_rule.LineRule.TheVariants.{Grammar}
use Rattle.eac_cli.specs.declared.named_event.NamedEvent.{NamedEvent}
use Rattle.eac_cli.specs.declared.named_event.NamedEvent.TheVariants as named

-- The chip of this number, where there are more chips than that.
abbrev pub chip_below : (chips : ℕ) → ℕ → Option ℕ
chip_below chips n = if nat_lt n chips then Some n else None

-- CHIP is decimal digits without leading zeros.
abbrev pub chip_of : (chips : ℕ) → List ℕ → Result (Option ℕ) LineRule
chip_of chips word = some_or (decimal_of word) Grammar >>= λ n. Ok (chip_below chips n)

abbrev pub make_of : (chips : ℕ) → List ℕ → List ℕ → Result NamedEvent LineRule
make_of chips chip authority = chip_of chips chip >>= λ c. holder_of authority >>= λ a. Ok (named.Make c a)

abbrev pub make_said : (chips : ℕ) → List (List ℕ) → Result NamedEvent LineRule
make_said chips rest = some_or (two_words rest) Grammar >>= λ w. make_of chips w.0 w.1

abbrev pub present_of : (chips : ℕ) → List ℕ → List ℕ → Result NamedEvent LineRule
present_of chips chip terminal = chip_of chips chip >>= λ c. holder_of terminal >>= λ t. Ok (named.Present c t)

abbrev pub present_said : (chips : ℕ) → List (List ℕ) → Result NamedEvent LineRule
present_said chips rest = some_or (two_words rest) Grammar >>= λ w. present_of chips w.0 w.1

abbrev pub import_of : (chips : ℕ) → List ℕ → List ℕ → Result NamedEvent LineRule
import_of chips chip hex = chip_of chips chip >>= λ c. bytes_of hex >>= λ bytes. Ok (named.Import c bytes)

abbrev pub import_said : (chips : ℕ) → List (List ℕ) → Result NamedEvent LineRule
import_said chips rest = some_or (two_words rest) Grammar >>= λ w. import_of chips w.0 w.1

abbrev pub look_of : (chips : ℕ) → List ℕ → Result NamedEvent LineRule
look_of chips chip = chip_of chips chip >>= λ c. Ok (named.Look c)

abbrev pub look_said : (chips : ℕ) → List (List ℕ) → Result NamedEvent LineRule
look_said chips rest = some_or (one_word rest) Grammar >>= look_of chips
