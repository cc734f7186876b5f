-- Decimal digits read one by one.
use Rattle.std.proofs.Common.{◌≡◌, ℕ, ◌+◌, ◌-◌, ◌*◌, ◌<◌, ◌≤◌, ◌^◌, Bool, true, false, cond, List, length, take, get_or, None, Some, ap, ◌∙◌, arith, lit≤}
use Rattle.std.specs.declared.option.Option.{Option}
use Rattle.std.specs.Prelude.{IsTrue, nat_lt}
use Rattle.std.specs.List.{list_all}
use Rattle.std.specs.Char.{digit_value}
use Rattle.std.specs.Str.Parse.{digits_value}
use Rattle.std.proofs.lemmas.Bool.Decides.{nat_tests}
use Rattle.std.proofs.lemmas.Grind.{common_steps}
use Rattle.std.proofs.lemmas.Int.Digits.{digits_value_more}
use Rattle.std.proofs.lemmas.List.Folds.{list_all_at}
use Rattle.std.proofs.lemmas.Str.Parse.{digits_value-take-le}
use Rattle.eac_base.specs.Text.{is_digit}
use Rattle.plain_text.specs.Digits.{in_four_bytes}

digit_at : (s : List ℕ) (i : ℕ) → IsTrue (list_all is_digit s) → i < length s → IsTrue (is_digit (get_or s i 0))
digit_at s i all inside = grind (arith, common_steps, list_all_at is_digit s i 0)

worth : (c : ℕ) → IsTrue (is_digit c) → digit_value c ≡ c - 48
worth c is = grind (arith, nat_tests)

-- One digit more.
one_more : (s : List ℕ) (i n : ℕ) → IsTrue (list_all is_digit s) → i < length s → n ≡ digits_value 10 (take i s) → 10 * n + (get_or s i 0 - 48) ≡ digits_value 10 (take (i + 1) s)
one_more s i n all inside before = omega (arith, before, digits_value_more 10 s i inside, worth (get_or s i 0) (digit_at s i all inside))

is_that : (fits : Bool) (m n : ℕ) → Some m ≡ cond fits (Some n) None → m ≡ n
is_that true m n e = cc
is_that false m n e = cc

pub number_more : (s : List ℕ) (i n : ℕ) (more : Option ℕ) → IsTrue (list_all is_digit s) → i < length s → Some n ≡ in_four_bytes (digits_value 10 (take i s)) → more ≡ in_four_bytes (10 * n + (get_or s i 0 - 48)) → more ≡ in_four_bytes (digits_value 10 (take (i + 1) s))
number_more s i n more all inside before is =
    is ∙ ap in_four_bytes (one_more s i n all inside (is_that (nat_lt (digits_value 10 (take i s)) (2 ^ 32)) n (digits_value 10 (take i s)) before))

greater : (n m : ℕ) → None ≡ in_four_bytes n → n ≤ m → None ≡ in_four_bytes m
greater n m none le = grind (arith, nat_tests)

-- A front that is too great makes the whole too great.
pub too_great : (s : List ℕ) (i : ℕ) → None ≡ in_four_bytes (digits_value 10 (take i s)) → None ≡ in_four_bytes (digits_value 10 s)
too_great s i none = greater (digits_value 10 (take i s)) (digits_value 10 s) none (digits_value-take-le 10 s i (lit≤ tt))
