-- How long legal texts are.
use Rattle.std.proofs.Common.{◌≡◌, ℕ, ◌≤◌, List, length, arith}
use Rattle.std.specs.Prelude.{IsTrue}
use Rattle.std.proofs.lemmas.Bool.Decides.{nat_tests}
use Rattle.holder_reference.specs.Reference.{is_reference, is_holder, is_sequence}

pub reference_fits : (bytes : List ℕ) → IsTrue (is_reference bytes) → length bytes ≤ 16
reference_fits bytes is = grind (arith, nat_tests)

pub holder_fits : (bytes : List ℕ) → IsTrue (is_holder bytes) → length bytes ≤ 11
holder_fits bytes is = grind (arith, nat_tests)

pub sequence_fits : (bytes : List ℕ) → IsTrue (is_sequence bytes) → length bytes ≡ 5
sequence_fits bytes is = grind (arith, nat_tests)
