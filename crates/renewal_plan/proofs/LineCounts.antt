-- The number of lines, one line after the other.
use Rattle.std.proofs.Common.{◌≡◌, ℕ, ◌+◌, ◌-◌, ◌<◌, ◌≤◌, List, [], length, drop, refl, ap, arith, length-take}
use Rattle.std.specs.Prelude.{◌==◌}
use Rattle.std.specs.List.{position_or_len}
use Rattle.std.specs.Str.Lines.{lines}
use Rattle.plain_text.proofs.Cuts.{behind, line_some, line_last}

pub one_line_less : (rest : List ℕ) (at : ℕ) → at ≡ position_or_len (λ b. b == 10) rest → at < length rest
    → length (lines rest) ≡ length (lines (behind at rest)) + 1
one_line_less rest at e lt = omega (arith, ap length (line_some rest at e lt))

pub last_line : (rest : List ℕ) (at : ℕ) → at ≡ position_or_len (λ b. b == 10) rest → length rest ≤ at → 0 < length rest
    → length (lines rest) ≡ 1
last_line rest at e le some = omega (arith, ap length (line_last rest [] some (omega (arith, e, le)) refl))

pub shorter : (rest : List ℕ) (at : ℕ) → at < length rest → length (behind at rest) + 1 ≤ length rest
shorter rest at lt = omega (arith, length-take (length rest - (at + 1)) (drop (at + 1) rest))
