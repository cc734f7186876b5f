-- Lines of packets that are sent or come (this project's own): `fetch PARTY DESK`, `push DESK PARTY`,
-- `send FROM TO HEX`, `deliver N`.
use Rattle.std.specs.Prelude.{ℕ, List, Result, Ok, Err, if◌then◌else◌}
use Rattle.eac_base.specs.Answers.{◌>>=◌, some_or}
use Rattle.eac_base.specs.Bytes.{is_within}
use Rattle.eac_base.specs.Text.{decimal_of}
use Rattle.plain_text.specs.Lines.{one_word}
use Rattle.eac_cli.specs.LineWords.{holder_of, two_holders, three_words, bytes_of}
use Rattle.eac_cli.specs.declared.line_rule.LineRule.{LineRule}
use Rattle.eac_cli.specs.declared.line_rule.LineRule.TheVariants.{Grammar, Limit}
use Rattle.eac_cli.specs.declared.named_event.NamedEvent.{NamedEvent}
use Rattle.eac_cli.specs.declared.named_event.NamedEvent.TheVariants as named

abbrev pub fetch_said : List (List ℕ) → Result NamedEvent LineRule
fetch_said rest = two_holders rest >>= λ both. Ok (named.Fetch both.0 both.1)

abbrev pub push_said : List (List ℕ) → Result NamedEvent LineRule
push_said rest = two_holders rest >>= λ both. Ok (named.Push both.0 both.1)

abbrev pub send_of : List ℕ → List ℕ → List ℕ → Result NamedEvent LineRule
send_of from to hex = holder_of from >>= λ f. holder_of to >>= λ t. bytes_of hex >>= λ bytes. Ok (named.Send f t bytes)

abbrev pub send_said : List (List ℕ) → Result NamedEvent LineRule
send_said rest = some_or (three_words rest) Grammar >>= λ w. send_of w.0 w.1 w.2

-- N is 1 to 1,000,000, in decimal digits without leading zeros.
abbrev pub packet_with : ℕ → Result NamedEvent LineRule
packet_with n = if is_within 1 1000000 n then Ok (named.Deliver n) else Err Limit

abbrev pub packet_of : List ℕ → Result NamedEvent LineRule
packet_of word = some_or (decimal_of word) Grammar >>= packet_with

abbrev pub deliver_said : List (List ℕ) → Result NamedEvent LineRule
deliver_said rest = some_or (one_word rest) Grammar >>= packet_of
