-- Five digits, and the number that they say.
use Rattle.std.proofs.Common.{◌≡◌, ℕ, ◌+◌, ◌-◌, ◌*◌, ◌/◌, ◌%◌, ◌<◌, ◌≤◌, Bool, true, false, List, [], ◌∷◌, length, take, get_or, refl, arith}
use Rattle.std.specs.Prelude.{IsTrue, ◌&&◌}
use Rattle.std.specs.List.{list_all}
use Rattle.std.specs.Char.{digit_value}
use Rattle.std.proofs.lemmas.Bool.Decides.{nat_tests}
use Rattle.std.proofs.lemmas.Grind.{common_steps}
use Rattle.std.proofs.lemmas.Int.Digits.{digits_value_more}
use Rattle.std.proofs.lemmas.List.Folds.{list_all_at}
use Rattle.std.proofs.lemmas.Str.Parse.{digits_value-take-le}
use Rattle.eac_base.specs.Text.{is_digit}
use Rattle.holder_reference.specs.Sequence.{is_decimal_sequence, number_said, five_digits}

-- ---- one digit

worth : (c : ℕ) → IsTrue (is_digit c) → digit_value c ≡ c - 48
worth c is = grind (arith, nat_tests)

pub within_digits : (c : ℕ) → IsTrue (is_digit c) → (48 ≤ c) × (c ≤ 57)
within_digits c is = (grind (arith, nat_tests), grind (arith, nat_tests))

pub digit_at : (s : List ℕ) (i : ℕ) → IsTrue (list_all is_digit s) → i < length s → IsTrue (is_digit (get_or s i 0))
digit_at s i is inside = grind (arith, common_steps, list_all_at is_digit s i 0)

-- ---- five of them

-- Of two tests that pass together, each passes.
pub both : (p q : Bool) → IsTrue (p && q) → IsTrue p × IsTrue q
both true q is = (refl, is)
both false q is = cc

-- The number and its digits, cell by cell.
record AreDigitsOf (a b c d e n : ℕ) : Type 0 where
  first : (48 ≤ a) × (a ≤ 57)
  second : (48 ≤ b) × (b ≤ 57)
  third : (48 ≤ c) × (c ≤ 57)
  fourth : (48 ≤ d) × (d ≤ 57)
  fifth : (48 ≤ e) × (e ≤ 57)
  number : n ≡ 10000 * (a - 48) + 1000 * (b - 48) + 100 * (c - 48) + 10 * (d - 48) + (e - 48)

digits_of_cells : (a b c d e : ℕ) → IsTrue (is_decimal_sequence (a ∷ b ∷ c ∷ d ∷ e ∷ [])) → AreDigitsOf a b c d e (number_said (a ∷ b ∷ c ∷ d ∷ e ∷ []))
digits_of_cells a b c d e is =
    let p = both (is_digit a) (list_all is_digit (b ∷ c ∷ d ∷ e ∷ [])) is in
    let q = both (is_digit b) (list_all is_digit (c ∷ d ∷ e ∷ [])) p.1 in
    let r = both (is_digit c) (list_all is_digit (d ∷ e ∷ [])) q.1 in
    let s = both (is_digit d) (list_all is_digit (e ∷ [])) r.1 in
    let t = both (is_digit e) true s.1 in
    record {
      first = within_digits a p.0;
      second = within_digits b q.0;
      third = within_digits c r.0;
      fourth = within_digits d s.0;
      fifth = within_digits e t.0;
      number = rw (worth a p.0, worth b q.0, worth c r.0, worth d s.0, worth e t.0) (omega arith);
    }

cells_again : (a b c d e n : ℕ) → AreDigitsOf a b c d e n → (n < 100000) × (five_digits n ≡ a ∷ b ∷ c ∷ d ∷ e ∷ [])
cells_again a b c d e n h =
    let first : 48 + n / 10000 % 10 ≡ a = omega arith in
    let second : 48 + n / 1000 % 10 ≡ b = omega arith in
    let third : 48 + n / 100 % 10 ≡ c = omega arith in
    let fourth : 48 + n / 10 % 10 ≡ d = omega arith in
    let fifth : 48 + n % 10 ≡ e = omega arith in
    (omega arith, rw (first, second, third, fourth, fifth) refl)

-- A decimal sequence is the five digits of its number.
pub decimals_are_numbers : (s : List ℕ) → IsTrue (is_decimal_sequence s) → (number_said s < 100000) × (five_digits (number_said s) ≡ s)
decimals_are_numbers [] is = cc
decimals_are_numbers (a ∷ []) is = cc
decimals_are_numbers (a ∷ b ∷ []) is = cc
decimals_are_numbers (a ∷ b ∷ c ∷ []) is = cc
decimals_are_numbers (a ∷ b ∷ c ∷ d ∷ []) is = cc
decimals_are_numbers (a ∷ b ∷ c ∷ d ∷ e ∷ []) is = cells_again a b c d e _ (digits_of_cells a b c d e is)
decimals_are_numbers (a ∷ b ∷ c ∷ d ∷ e ∷ f ∷ s) is = absurd (grind (arith, nat_tests))

-- ---- counting them up

-- One digit more, of decimal digits read so far.
pub one_more : (s : List ℕ) (i n : ℕ) → IsTrue (is_decimal_sequence s) → i < length s → n ≡ number_said (take i s)
    → number_said (take (i + 1) s) ≡ 10 * n + (get_or s i 0 - 48)
one_more s i n is inside said =
    let all : IsTrue (list_all is_digit s) = grind (arith, nat_tests) in
    rw (digits_value_more 10 s i inside, worth (get_or s i 0) (digit_at s i all inside)) (omega arith)

pub digit_there : (s : List ℕ) (i : ℕ) → IsTrue (is_decimal_sequence s) → i < length s → (48 ≤ get_or s i 0) × (get_or s i 0 ≤ 57)
digit_there s i is inside =
    let all : IsTrue (list_all is_digit s) = grind (arith, nat_tests) in
    within_digits (get_or s i 0) (digit_at s i all inside)

pub none_is_more : (s : List ℕ) (i : ℕ) → IsTrue (is_decimal_sequence s) → number_said (take i s) < 100000
none_is_more s i is = let whole = (decimals_are_numbers s is).0 in omega (arith, digits_value-take-le 10 s i (omega arith))
