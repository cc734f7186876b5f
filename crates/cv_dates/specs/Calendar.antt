-- Dates YYMMDD of the years 2000 to 2099 (BSI TR-03110-3, certificate effective date and certificate expiration date).
-- That a day is counted from 2000-01-01 and that the years end with 2099 is this project's own.
use Rattle.std.specs.Prelude.{◌≡◌, ◌↔◌, ℕ, ◌+◌, ◌-◌, ◌*◌, ◌/◌, ◌%◌, ◌≤◌, List, [], ◌∷◌, ◌++◌, length, take, Bool, ◌&&◌, not, nat_lt, nat_le, ◌==◌, sum, IsTrue, if◌then◌else◌, Option, Some, None, Result, Ok, Err, map, slice_index}
use Rattle.std.specs.List.{list_all, flat_map, range_with_len}
use Rattle.std.specs.Ordering.{nat_cmp}
use Rattle.std.specs.Cmp.Lexicographic.{slice_cmp}
use Rattle.eac_base.specs.Bytes.{is_within}
use Rattle.cv_dates.specs.declared.refusal.DateRefusal.{DateRefusal}
use Rattle.cv_dates.specs.declared.refusal.DateRefusal.TheVariants.{Length, Digit, NoSuchDay}

-- ---- the calendar

-- How many days the months of a year have; every fourth year is a leap year.
abbrev pub month_lengths : ℕ → List ℕ
month_lengths year = 31 ∷ (if year % 4 == 0 then 29 else 28) ∷ 31 ∷ 30 ∷ 31 ∷ 30 ∷ 31 ∷ 31 ∷ 30 ∷ 31 ∷ 30 ∷ 31 ∷ []

-- The lengths of the months from January 2000 to December 2099. (1,200 numbers, which only a proof that computes with
-- them opens.)
unfoldable pub all_months : List ℕ
all_months = flat_map month_lengths (range_with_len 0 100)

-- A year 0 to 99, a month 1 to 12 and a day of that month.
abbrev pub is_date : ℕ → ℕ → ℕ → Bool
is_date year month day = nat_lt year 100 && is_within 1 12 month && is_within 1 (slice_index (month_lengths year) (month - 1)) day

-- The lengths of all earlier months, and the day of the month less one.
abbrev pub day_number : ℕ → ℕ → ℕ → ℕ
day_number year month day = sum (take (12 * year + (month - 1)) all_months) + (day - 1)

-- The number of 2099-12-31.
abbrev pub last_day : ℕ
last_day = 36524

-- ---- six digits

abbrev pub two_digits : ℕ → List ℕ
two_digits n = (n / 10) ∷ (n % 10) ∷ []

abbrev pub date_digits : ℕ → ℕ → ℕ → List ℕ
date_digits year month day = two_digits year ++ two_digits month ++ two_digits day

-- The digits in ASCII.
abbrev pub ascii : List ℕ → List ℕ
ascii digits = map (λ d. 48 + d) digits

-- The six digits name this day.
abbrev pub IsDateOf : ℕ → List ℕ → Type 0
IsDateOf number digits = (year month day : ℕ) × IsTrue (is_date year month day) × (digits ≡ date_digits year month day) × (number ≡ day_number year month day)

-- The text is the six digits of this day in ASCII.
abbrev pub IsTextOf : ℕ → List ℕ → Type 0
IsTextOf number text = (digits : List ℕ) × IsDateOf number digits × (text ≡ ascii digits)

-- ---- reading: the day, or the first test that fails

-- The test's place in the order.
abbrev pub refusal_number : DateRefusal → ℕ
refusal_number Length = 1
refusal_number Digit = 2
refusal_number NoSuchDay = 3

abbrev pub named_day : ℕ → ℕ → ℕ → Result ℕ DateRefusal
named_day year month day = if is_date year month day then Ok (day_number year month day) else Err NoSuchDay

abbrev pub pair_at : ℕ → List ℕ → ℕ
pair_at i digits = 10 * slice_index digits i + slice_index digits (i + 1)

abbrev pub read_date : List ℕ → Result ℕ DateRefusal
read_date digits =
    if not (length digits == 6) then Err Length
    else (if not (list_all (λ d. nat_lt d 10) digits) then Err Digit
    else named_day (pair_at 0 digits) (pair_at 2 digits) (pair_at 4 digits))

-- The same with the digits in ASCII.
abbrev pub day_from_text : List ℕ → Result ℕ DateRefusal
day_from_text text =
    if not (length text == 6) then Err Length
    else (if not (list_all (is_within 48 57) text) then Err Digit
    else read_date (map (λ b. b - 48) text))

-- ---- writing: the one text of a day

-- Which of the months the day falls in, counted from 0, and its place in that month.
abbrev pub place_in : List ℕ → ℕ → ℕ × ℕ
place_in [] number = (0, number)
place_in (days ∷ months) number = if nat_lt number days then (0, number)
    else (let later = place_in months (number - days) in (later.0 + 1, later.1))

abbrev pub year_of : ℕ → ℕ
year_of number = let place = place_in all_months number in place.0 / 12

abbrev pub month_of : ℕ → ℕ
month_of number = let place = place_in all_months number in place.0 % 12 + 1

abbrev pub day_of : ℕ → ℕ
day_of number = let place = place_in all_months number in place.1 + 1

abbrev pub date_of : ℕ → List ℕ
date_of number = date_digits (year_of number) (month_of number) (day_of number)

abbrev pub day_text : ℕ → List ℕ
day_text number = ascii (date_of number)

-- ---- numbers and sums

abbrev pub day_at : ℕ → Option ℕ
day_at number = if nat_le number last_day then Some number else None

abbrev pub plus_days : ℕ → ℕ → Option ℕ
plus_days day days = day_at (day + days)

-- ---- laws

-- What was written is read as the day that was written.
abbrev pub EachDayIsRead : Type 0
EachDayIsRead = (number : ℕ) → number ≤ last_day → read_date (date_of number) ≡ Ok number

abbrev pub EachTextIsRead : Type 0
EachTextIsRead = (number : ℕ) → number ≤ last_day → day_from_text (day_text number) ≡ Ok number

-- What was read is what is written of the day that was read.
abbrev pub ReadIsTheText : Type 0
ReadIsTheText = (digits : List ℕ) (number : ℕ) → read_date digits ≡ Ok number → (number ≤ last_day) × (digits ≡ date_of number)

abbrev pub TextReadIsTheText : Type 0
TextReadIsTheText = (text : List ℕ) (number : ℕ) → day_from_text text ≡ Ok number → (number ≤ last_day) × (text ≡ day_text number)

-- What is read is what the relation says.
abbrev pub DatesAreRead : Type 0
DatesAreRead = (digits : List ℕ) (number : ℕ) → (read_date digits ≡ Ok number) ↔ IsDateOf number digits

abbrev pub TextsAreRead : Type 0
TextsAreRead = (text : List ℕ) (number : ℕ) → (day_from_text text ≡ Ok number) ↔ IsTextOf number text

-- Days compare as their texts do, byte by byte.
abbrev pub DatesSortAsDays : Type 0
DatesSortAsDays = (a b : ℕ) → a ≤ last_day → b ≤ last_day → slice_cmp nat_cmp (date_of a) (date_of b) ≡ nat_cmp a b

abbrev pub TextsSortAsDays : Type 0
TextsSortAsDays = (a b : ℕ) → a ≤ last_day → b ≤ last_day → slice_cmp nat_cmp (day_text a) (day_text b) ≡ nat_cmp a b
