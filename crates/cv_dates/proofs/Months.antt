-- The months of the hundred years: which dates there are, and which days they are.
use Rattle.std.proofs.Common.{◌≡◌, ℕ, zero, suc, ◌+◌, ◌-◌, ◌*◌, ◌/◌, ◌%◌, ◌<◌, ◌≤◌, Bool, true, false, ◌&&◌, ltb, leb, eqb, length, take, get_or, Ok, refl, sym, ap, ◌∙◌, arith, inl, inr, ◌⊎◌}
use Rattle.std.specs.Prelude.{sum}
use Rattle.std.proofs.lemmas.Bool.{ltb-true, lt-ltb, le-leb, leb-true, eqb-true, cases_lt}
use Rattle.cv_dates.specs.Calendar.{place_in, is_date, day_number, named_day, year_of, month_of, day_of, date_of, date_digits, all_months, month_lengths, last_day, IsDateOf}
use Rattle.cv_dates.specs.declared.refusal.DateRefusal.{DateRefusal}
use Rattle.cv_dates.specs.declared.refusal.DateRefusal.TheVariants.{NoSuchDay}
use Rattle.std.proofs.Common.{Err, cond}
use Rattle.cv_dates.proofs.Places.{IsPlace, place_is, place_of, before_end}

-- ---- a test of each number below a limit

abbrev pub all_below : ℕ → (ℕ → Bool) → Bool
all_below zero test = true
all_below (suc n) test = test n && all_below n test

pub both : (a b : Bool) → (a && b) ≡ true → (a ≡ true) × (b ≡ true)
both true b e = (refl, e)
both false b e = absurd cc

pub below : (n : ℕ) (test : ℕ → Bool) (i : ℕ) → all_below n test ≡ true → i < n → test i ≡ true
below zero test i e h = absurd (omega arith)
below (suc n) test i e h =
    let parts = both (test n) (all_below n test) e in
    elim (lt_or_eq i n (omega arith)) [ inl lt ↦ below n test i parts.1 lt | inr same ↦ ap test same ∙ parts.0 ]
  where
    lt_or_eq : (a b : ℕ) → a ≤ b → (a < b) ⊎ (a ≡ b)
    lt_or_eq a b le = elim (cases_lt a b) [ inl lt ↦ inl lt | inr ge ↦ inr (omega arith) ]

-- ---- the list of all months, computed

-- Month i of the hundred years is month i % 12 of year i / 12, and no month is longer than 31 days.
abbrev month_fits : ℕ → Bool
month_fits i = eqb (get_or all_months i 0) (get_or (month_lengths (i / 12)) (i % 12) 0) && ltb (get_or all_months i 0) 32

each_month : all_below 1200 month_fits ≡ true
unfolding all_months
each_month = refl

pub whole : sum all_months ≡ 36525
unfolding all_months
whole = refl

pub months : length all_months ≡ 1200
unfolding all_months
months = refl

fits : (i : ℕ) → i < 1200 → (get_or all_months i 0 ≡ get_or (month_lengths (i / 12)) (i % 12) 0) × (get_or all_months i 0 < 32)
fits i h =
    let test = both (eqb (get_or all_months i 0) (get_or (month_lengths (i / 12)) (i % 12) 0)) (ltb (get_or all_months i 0) 32) (below 1200 month_fits i each_month h) in
    (eqb-true _ _ test.0, ltb-true _ _ test.1)

-- ---- the place of a day names it

lt_same : (a b c : ℕ) → b ≡ c → a < b → a < c
lt_same a b c e h = rw (← e) h

pub met : {A : Type 0} (b : Bool) (f : DateRefusal) (x y : A) → cond b (Ok x) (Err f) ≡ Ok y → (b ≡ true) × (x ≡ y)
met true f x y e = (refl, cc)
met false f x y e = absurd cc

named : (i d number : ℕ) → i < 1200 → d < get_or (month_lengths (i / 12)) (i % 12) 0 → sum (take i all_months) + d ≡ number
    → named_day (i / 12) (i % 12 + 1) (d + 1) ≡ Ok number
named i d number hi hd e =
    let month : (i % 12 + 1) - 1 ≡ i % 12 = omega arith in
    let place : 12 * (i / 12) + i % 12 ≡ i = omega arith in
    let day : (d + 1) - 1 ≡ d = omega arith in
    rw (
      month,
      place,
      day,
      lt-ltb (i / 12) 100 (omega arith),
      le-leb 1 (i % 12 + 1) (omega arith),
      le-leb (i % 12 + 1) 12 (omega arith),
      le-leb 1 (d + 1) (omega arith),
      le-leb (d + 1) (get_or (month_lengths (i / 12)) (i % 12) 0) (omega arith),
    ) (ap (λ (n : ℕ). Ok n) e)

pub place_of_day : (number : ℕ) → number ≤ last_day → IsPlace all_months number (place_in all_months number)
place_of_day number h = place_is all_months number (let w = whole in omega arith)

pub month_in : (number : ℕ) → number ≤ last_day → (place_in all_months number).0 < 1200
month_in number h = let p = (place_of_day number h).month in let count = months in omega arith

pub named_again : (number : ℕ) → number ≤ last_day → named_day (year_of number) (month_of number) (day_of number) ≡ Ok number
named_again number h =
    let place = place_in all_months number in
    let p = place_of_day number h in
    let i = month_in number h in
    named place.0 place.1 number i (lt_same _ _ _ (fits place.0 i).0 p.day) p.number_is

pub date_of_day : (number : ℕ) → number ≤ last_day
    → (is_date (year_of number) (month_of number) (day_of number) ≡ true) × (day_number (year_of number) (month_of number) (day_of number) ≡ number)
date_of_day number h =
    met (is_date (year_of number) (month_of number) (day_of number)) NoSuchDay (day_number (year_of number) (month_of number) (day_of number)) number (named_again number h)

pub is_date_of : (number : ℕ) → number ≤ last_day → IsDateOf number (date_of number)
is_date_of number h =
    let date = date_of_day number h in
    (year_of number, month_of number, day_of number, date.0, refl, sym date.1)

-- ---- what a date's parts are

pub record Parts (y m d : ℕ) : Type 0 where
  pub year : y < 100
  pub low : 1 ≤ m
  pub high : m ≤ 12
  pub first : 1 ≤ d
  pub last : d ≤ get_or (month_lengths y) (m - 1) 0

pub parts_of : (y m d : ℕ) → is_date y m d ≡ true → Parts y m d
parts_of y m d e =
    let ym = both (ltb y 100 && (leb 1 m && leb m 12)) (leb 1 d && leb d (get_or (month_lengths y) (m - 1) 0)) e in
    let y_m = both (ltb y 100) (leb 1 m && leb m 12) ym.0 in
    let ms = both (leb 1 m) (leb m 12) y_m.1 in
    let ds = both (leb 1 d) (leb d (get_or (month_lengths y) (m - 1) 0)) ym.1 in
    record { year = ltb-true y 100 y_m.0; low = leb-true 1 m ms.0; high = leb-true m 12 ms.1; first = leb-true 1 d ds.0; last = leb-true d (get_or (month_lengths y) (m - 1) 0) ds.1 }

month_place : (y m : ℕ) → y < 100 → 1 ≤ m → m ≤ 12 → (12 * y + (m - 1) < 1200) × ((12 * y + (m - 1)) / 12 ≡ y) × ((12 * y + (m - 1)) % 12 + 1 ≡ m) × ((12 * y + (m - 1)) % 12 ≡ m - 1)
month_place y m hy lo hi = (omega arith, omega arith, omega arith, omega arith)

same_length : (y m : ℕ) → y < 100 → 1 ≤ m → m ≤ 12 → get_or all_months (12 * y + (m - 1)) 0 ≡ get_or (month_lengths y) (m - 1) 0
same_length y m hy lo hi =
    let p = month_place y m hy lo hi in
    let i = 12 * y + (m - 1) in
    (fits i p.0).0 ∙ ap (λ (a : ℕ). get_or (month_lengths a) (i % 12) 0) p.1 ∙ ap (λ (a : ℕ). get_or (month_lengths y) a 0) p.3

pub short_month : (y m d : ℕ) → is_date y m d ≡ true → (m < 100) × (d < 100)
short_month y m d e =
    let p = parts_of y m d e in
    let size = same_length y m p.year p.low p.high in
    let short = (fits (12 * y + (m - 1)) (month_place y m p.year p.low p.high).0).1 in
    let high = p.high in
    let last = p.last in
    (omega arith, omega arith)

text_of_place : (n i d y m : ℕ) → place_in all_months n ≡ (i, d - 1) → 1 ≤ d → i / 12 ≡ y → i % 12 + 1 ≡ m → date_of n ≡ date_digits y m d
text_of_place n i d y m e low ey em = rw (e, ey, em, back d low) refl
  where
    back : (k : ℕ) → 1 ≤ k → (k - 1) + 1 ≡ k
    back k h = omega arith

less_one : (d limit : ℕ) → 1 ≤ d → d ≤ limit → d - 1 < limit
less_one d limit lo hi = omega arith

-- A date is a day of the hundred years, and its digits are that day's.
pub named_is : (y m d : ℕ) → is_date y m d ≡ true → (day_number y m d ≤ last_day) × (date_of (day_number y m d) ≡ date_digits y m d)
named_is y m d e =
    let p = parts_of y m d e in
    let i = 12 * y + (m - 1) in
    let place = month_place y m p.year p.low p.high in
    let count = months in
    let inside : i < length all_months = omega arith in
    let day : d - 1 < get_or all_months i 0 = lt_same (d - 1) _ _ (sym (same_length y m p.year p.low p.high)) (less_one d _ p.first p.last) in
    let end = before_end all_months i (d - 1) inside day in
    let total = whole in
    (omega arith, text_of_place (day_number y m d) i d y m (place_of all_months i (d - 1) inside day) p.first place.1 place.2)
