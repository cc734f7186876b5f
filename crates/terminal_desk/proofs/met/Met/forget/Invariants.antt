use Rattle.std.proofs.Common.{◌≡◌, ℕ, ◌<◌, false, length, Some}
use Rattle.std.specs.Prelude.{slice_get}
use Rattle.terminal_desk.proofs.met.Met.forget.Given as goal

abbrev pub invariant-marks : goal.invariant-marks
invariant-marks l = record {
  all : length l.self-inside.marks.items ≡ length l.initial.self-inside.marks.items;
  unmarked : (p : ℕ) → p < l.at → slice_get l.self-inside.marks.items p ≡ Some false;
}
