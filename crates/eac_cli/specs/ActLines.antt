-- Lines of acts of parties (this project's own): `found AUTH`, `link AUTH`, `trust PARTY AUTH`,
-- `apply HOLDER AUTH ROOT`.
use Rattle.std.specs.Prelude.{ℕ, List, Result, Ok}
use Rattle.eac_base.specs.Answers.{◌>>=◌, some_or}
use Rattle.eac_cli.specs.LineWords.{holder_of, one_holder, two_holders, three_words}
use Rattle.eac_cli.specs.declared.line_rule.LineRule.{LineRule}
use Rattle.eac_cli.specs.declared.line_rule.LineRule.TheVariants.{Grammar}
use Rattle.eac_cli.specs.declared.named_event.NamedEvent.{NamedEvent}
use Rattle.eac_cli.specs.declared.named_event.NamedEvent.TheVariants as named

abbrev pub found_said : List (List ℕ) → Result NamedEvent LineRule
found_said rest = one_holder rest >>= λ authority. Ok (named.Found authority)

abbrev pub link_said : List (List ℕ) → Result NamedEvent LineRule
link_said rest = one_holder rest >>= λ authority. Ok (named.Link authority)

abbrev pub trust_said : List (List ℕ) → Result NamedEvent LineRule
trust_said rest = two_holders rest >>= λ both. Ok (named.Trust both.0 both.1)

abbrev pub apply_of : List ℕ → List ℕ → List ℕ → Result NamedEvent LineRule
apply_of holder authority root =
    holder_of holder >>= λ h. holder_of authority >>= λ a. holder_of root >>= λ r. Ok (named.Apply h a r)

abbrev pub apply_said : List (List ℕ) → Result NamedEvent LineRule
apply_said rest = some_or (three_words rest) Grammar >>= λ w. apply_of w.0 w.1 w.2
