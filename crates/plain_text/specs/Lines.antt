-- The lines of a text from some line on, and the words of a line (this project's own).
use Rattle.std.specs.Prelude.{ℕ, List, [], ◌∷◌, filter, not, ◌==◌, Option, Some, None}
use Rattle.std.specs.List.{slice_split, enumerate_from}
use Rattle.std.specs.Str.Lines.{lines}
use Rattle.eac_base.specs.Text.{is_passed_over}

-- ---- lines

-- The lines that aren't passed over, each with its number, where the text begins with line n.
abbrev pub numbered_from : ℕ → List ℕ → List (ℕ × List ℕ)
numbered_from n text = filter (λ l. not (is_passed_over l.1)) (enumerate_from n (lines text))

-- ---- words

-- What stands between spaces.
abbrev pub pieces : List ℕ → List (List ℕ)
pieces line = slice_split (λ b. b == 32) line

-- The pieces behind a space, and none where there is no space.
abbrev pub pieces_left : Option (List ℕ) → List (List ℕ)
pieces_left None = []
pieces_left (Some rest) = pieces rest

-- Just one word, and just two.
abbrev pub one_word : List (List ℕ) → Option (List ℕ)
one_word (a ∷ []) = Some a
one_word other = None

abbrev pub two_words : List (List ℕ) → Option (List ℕ × List ℕ)
two_words (a ∷ b ∷ []) = Some (a, b)
two_words other = None
