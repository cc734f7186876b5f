-- Days and refusals of some dates, computed by the definitions.
use Rattle.std.specs.Prelude.{◌≡◌, codes, refl, Ok, Err, [], ◌∷◌, sum}
use Rattle.cv_dates.specs.declared.refusal.DateRefusal.TheVariants.{Length, Digit, NoSuchDay}
use Rattle.cv_dates.specs.Calendar.{read_date, day_text, all_months}

whole : sum all_months ≡ 36525
unfolding all_months
whole = refl

leap_day : read_date (2 ∷ 4 ∷ 0 ∷ 2 ∷ 2 ∷ 9 ∷ []) ≡ Ok 8825
unfolding all_months
leap_day = refl

no_leap_day : read_date (2 ∷ 3 ∷ 0 ∷ 2 ∷ 2 ∷ 9 ∷ []) ≡ Err NoSuchDay
unfolding all_months
no_leap_day = refl

no_digit : read_date (2 ∷ 0xa ∷ 0 ∷ 1 ∷ 0 ∷ 1 ∷ []) ≡ Err Digit
unfolding all_months
no_digit = refl

five : read_date (2 ∷ 3 ∷ 0 ∷ 1 ∷ 0 ∷ []) ≡ Err Length
unfolding all_months
five = refl

first : read_date (0 ∷ 0 ∷ 0 ∷ 1 ∷ 0 ∷ 1 ∷ []) ≡ Ok 0
unfolding all_months
first = refl

last : read_date (9 ∷ 9 ∷ 1 ∷ 2 ∷ 3 ∷ 1 ∷ []) ≡ Ok 36524
unfolding all_months
last = refl

text_of_last : day_text 36524 ≡ codes "991231"
unfolding all_months
text_of_last = refl

text_of_leap_day : day_text 8825 ≡ codes "240229"
unfolding all_months
text_of_leap_day = refl

three_years : day_text 9862 ≡ codes "270101"
unfolding all_months
three_years = refl
