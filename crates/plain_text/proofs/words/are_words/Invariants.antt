use Rattle.std.proofs.Common.{◌≡◌, length}
use Rattle.std.specs.List.{list_all}
use Rattle.eac_base.specs.Text.{is_word}
use Rattle.plain_text.specs.Lines.{pieces}
use Rattle.plain_text.proofs.words.are_words.Given as goal

abbrev pub invariant-words : goal.invariant-words
invariant-words l = list_all is_word (pieces l.line) ≡ list_all is_word (pieces l.rest)

abbrev pub decreases-words : goal.decreases-words
decreases-words l = length l.rest
