-- What the last words of a setup line say.
use Rattle.std.proofs.Common.{◌≡◌, ℕ, Bool, true, false, cond, List, [], ◌∷◌, length, None, Some, refl, ap, arith}
use Rattle.std.specs.declared.option.Option.{Option}
use Rattle.std.specs.Prelude.{◌==◌}
use Rattle.std.specs.List.{onto_first}
use Rattle.eac_base.specs.Answers.{◌gives◌}
use Rattle.plain_text.specs.Lines.{pieces, pieces_left, one_word}
use Rattle.policy_limits.specs.SetupLine.{suspended_word, suspended_words}

-- ---- a line has a piece at least

step : (b : Bool) (x : ℕ) (parts : List (List ℕ)) → length (cond b ([] ∷ parts) (onto_first x parts)) ≡ 0 → ⊥
step true x parts none = omega arith
step false x [] none = omega arith
step false x (part ∷ parts) none = omega arith

some_piece : (line : List ℕ) → length (pieces line) ≡ 0 → ⊥
some_piece [] none = omega arith
some_piece (x ∷ xs) none = step (x == 32) x (pieces xs) none

-- ---- `suspended`

by_pieces : (ps : List (List ℕ)) → (length ps ≡ 0 → ⊥) → None ≡ one_word ps → None ≡ suspended_words ps
by_pieces [] some none = absurd (some refl)
by_pieces (w ∷ ps) some none = ap (λ o. o gives suspended_word) none

pub no_suspended : (rest : Option (List ℕ)) (line : List ℕ) → rest ≡ Some line → None ≡ one_word (pieces_left rest) → None ≡ suspended_words (pieces_left rest)
no_suspended None line e none = cc
no_suspended (Some x) line e none = by_pieces (pieces x) (some_piece x) none
