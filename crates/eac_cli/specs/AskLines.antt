-- Lines of the plain register (this project's own): `ask REFERENCE HEX`.
use Rattle.std.specs.Prelude.{ℕ, List, Result, Ok}
use Rattle.eac_base.specs.Answers.{◌>>=◌, ◌>>◌, unless, some_or}
use Rattle.holder_reference.specs.Reference.{is_reference}
use Rattle.plain_text.specs.Lines.{two_words}
use Rattle.eac_cli.specs.LineWords.{bytes_of}
use Rattle.eac_cli.specs.declared.line_rule.LineRule.{LineRule}
use Rattle.eac_cli.specs.declared.line_rule.LineRule.TheVariants.{Grammar}
use Rattle.eac_cli.specs.declared.named_event.NamedEvent.{NamedEvent}
use Rattle.eac_cli.specs.declared.named_event.NamedEvent.TheVariants as named

abbrev pub ask_of : List ℕ → List ℕ → Result NamedEvent LineRule
ask_of reference hex =
    unless (is_reference reference) Grammar >> (bytes_of hex >>= λ bytes. Ok (named.Ask reference bytes))

abbrev pub ask_said : List (List ℕ) → Result NamedEvent LineRule
ask_said rest = some_or (two_words rest) Grammar >>= λ w. ask_of w.0 w.1
