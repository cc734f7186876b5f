-- What jiff promises is what the definitions say: its count of days is the sum of the months, its dates are the dates.
use Rattle.std.proofs.Common.{◌≡◌, ◌≤◌, ◌<◌, ◌+◌, ◌-◌, ◌*◌, ◌%◌, ◌==◌, ℕ, zero, suc, Bool, true, false, not, eqb, cond, List, [], ◌∷◌, ◌++◌, sum, take, drop, get_or, refl, sym, ap, subst, ◌∙◌, arith, ℤ, pos, ◌+ℤ◌}
use Rattle.std.specs.Str.{bytes_eq}
use Rattle.std.proofs.lemmas.List.Sums.{sum_by-append}
use Rattle.std.proofs.lemmas.List.{take-take}
use Rattle.std.proofs.Math.Seq.{take-add}
use Rattle.std.proofs.lemmas.Bool.{eqb-true, lt-ltb, le-leb}
use Rattle.std.proofs.lemmas.Slice.Eq.{bytes_eq-Decides}
use Rattle.jiff_core.specs.Calendar.{IsDate, is_leap_year, days_in_year, days_in_month, days_of_months, day_count, days_from_civil}
use Rattle.jiff_core.specs.Date.{IsYmd, epoch_day}
use Rattle.jiff_core.specs.declared.civil.date.Date.{Date}
use Rattle.std.specs.Prelude.{Ok}
use Rattle.jiff_core.proofs.DateLemmas.{epoch_day_injective}
use Rattle.jiff_core.proofs.SignedLemmas.{signed_arith}
use Rattle.jiff_core.proofs.StandardFacts.{known_days}
use Rattle.jiff_core.proofs.CalendarLemmas.{days_from_civil-day_count, day_count-next_year, day_count-day_of_year}
use Rattle.cv_dates.specs.Calendar.{all_months, day_number, is_date, named_day, year_of, month_of, day_of, date_of, date_digits, last_day}
use Rattle.cv_dates.proofs.Months.{all_below, below, date_of_day, parts_of}

-- every fourth year is a leap year
abbrev is_leap : ℕ → Bool
is_leap year = year % 4 == 0

abbrev months : Bool → List ℕ
months leap = 31 ∷ (cond leap 29 28) ∷ 31 ∷ 30 ∷ 31 ∷ 30 ∷ 31 ∷ 31 ∷ 30 ∷ 31 ∷ 30 ∷ 31 ∷ []

-- the days of the first so many years
unfoldable pub year_days : ℕ → ℕ
year_days zero = 0
year_days (suc year) = year_days year + sum (months (is_leap year))

-- the days of so many years and of so many months of the next one
abbrev days_before : ℕ → ℕ → ℕ → ℕ
days_before y m d = year_days y + sum (take (m - 1) (months (is_leap y))) + (d - 1)

abbrev same : Bool → Bool → Bool
same true b = b
same false b = not b

same_is : (a b : Bool) → same a b ≡ true → a ≡ b
same_is true true h = refl
same_is true false h = absurd cc
same_is false true h = absurd cc
same_is false false h = refl

leap_table : all_below 100 (λ y. same (is_leap_year (pos (2000 + y))) (is_leap y)) ≡ true
leap_table = refl

pub leap : (y : ℕ) → y < 100 → is_leap_year (pos (2000 + y)) ≡ is_leap y
leap y low = same_is _ _ (below 100 (λ y. same (is_leap_year (pos (2000 + y))) (is_leap y)) y leap_table low)

year_is : (b : Bool) → cond b 366 365 ≡ sum (months b)
year_is true = refl
year_is false = refl

sum-append : (xs ys : List ℕ) → sum (xs ++ ys) ≡ sum xs + sum ys
sum-append xs ys = sum_by-append (λ x. x) xs ys

-- so many days lie before each year
year_start : (y : ℕ) → y < 100 → day_count (pos (2000 + y)) 1 1 ≡ day_count (pos 2000) 1 1 + year_days y
unfolding year_days
year_start zero low = omega arith
year_start (suc y) low =
    let less : y < 100 = omega arith in
    let next : pos (2000 + suc y) ≡ pos (2000 + y) +ℤ pos 1 = ap pos (omega arith) in
    let step = day_count-next_year (pos (2000 + y)) (pos (2000 + suc y)) (omega (arith, signed_arith)) next in
    let this : days_in_year (pos (2000 + y)) ≡ sum (months (is_leap y)) = rw (leap y less) (year_is (is_leap y)) in
    omega (arith, step, this, year_start y less)

-- the days of the first months of a year
months_are : (y : ℤ) (b : Bool) → is_leap_year y ≡ b → (n : ℕ) → n ≤ 12 → days_of_months y n ≡ sum (take n (months b))
unfolding days_of_months
months_are y b e zero low = refl
months_are y b e (suc zero) low = refl
months_are y b e (suc (suc zero)) low = rw e (elim b [ true ↦ refl | false ↦ refl ])
months_are y b e (suc (suc (suc zero))) low = rw e (elim b [ true ↦ refl | false ↦ refl ])
months_are y b e (suc (suc (suc (suc zero)))) low = rw e (elim b [ true ↦ refl | false ↦ refl ])
months_are y b e (suc (suc (suc (suc (suc zero))))) low = rw e (elim b [ true ↦ refl | false ↦ refl ])
months_are y b e (suc (suc (suc (suc (suc (suc zero)))))) low = rw e (elim b [ true ↦ refl | false ↦ refl ])
months_are y b e (suc (suc (suc (suc (suc (suc (suc zero))))))) low = rw e (elim b [ true ↦ refl | false ↦ refl ])
months_are y b e (suc (suc (suc (suc (suc (suc (suc (suc zero)))))))) low = rw e (elim b [ true ↦ refl | false ↦ refl ])
months_are y b e (suc (suc (suc (suc (suc (suc (suc (suc (suc zero))))))))) low = rw e (elim b [ true ↦ refl | false ↦ refl ])
months_are y b e (suc (suc (suc (suc (suc (suc (suc (suc (suc (suc zero)))))))))) low = rw e (elim b [ true ↦ refl | false ↦ refl ])
months_are y b e (suc (suc (suc (suc (suc (suc (suc (suc (suc (suc (suc zero))))))))))) low = rw e (elim b [ true ↦ refl | false ↦ refl ])
months_are y b e (suc (suc (suc (suc (suc (suc (suc (suc (suc (suc (suc (suc zero)))))))))))) low = rw e (elim b [ true ↦ refl | false ↦ refl ])
months_are y b e (suc (suc (suc (suc (suc (suc (suc (suc (suc (suc (suc (suc (suc n))))))))))))) low = absurd (omega arith)

first_day : day_count (pos 2000) 1 1 ≡ 4_382_910
first_day = omega (arith, signed_arith, days_from_civil-day_count (pos 2000) 1 1, known_days.2)

-- the count of jiff is the sum of the months
pub count_is : (y m d : ℕ) → y < 100 → 1 ≤ m → m ≤ 12 → 1 ≤ d → day_count (pos (2000 + y)) m d ≡ 4_382_910 + days_before y m d
count_is y m d low first last day =
    omega (arith, first_day, year_start y low, day_count-day_of_year (pos (2000 + y)) m d day, months_are (pos (2000 + y)) (is_leap y) (leap y low) (m - 1) (omega arith))

pub days_are : (y m d n : ℕ) → y < 100 → 1 ≤ m → m ≤ 12 → 1 ≤ d → days_from_civil (pos (2000 + y)) m d +ℤ pos 4_371_587 ≡ pos n → n ≡ 4_382_544 + days_before y m d
days_are y m d n low first last day e =
    omega (arith, signed_arith, e, count_is y m d low first last day, days_from_civil-day_count (pos (2000 + y)) m d)

-- the length of each month
pub month_is : (y : ℤ) (b : Bool) → is_leap_year y ≡ b → (m : ℕ) → 1 ≤ m → m ≤ 12 → days_in_month y m ≡ get_or (months b) (m - 1) 0
month_is y b e zero first last = absurd (omega arith)
month_is y b e (suc zero) first last = refl
month_is y b e (suc (suc zero)) first last = rw e refl
month_is y b e (suc (suc (suc zero))) first last = refl
month_is y b e (suc (suc (suc (suc zero)))) first last = refl
month_is y b e (suc (suc (suc (suc (suc zero))))) first last = refl
month_is y b e (suc (suc (suc (suc (suc (suc zero)))))) first last = refl
month_is y b e (suc (suc (suc (suc (suc (suc (suc zero))))))) first last = refl
month_is y b e (suc (suc (suc (suc (suc (suc (suc (suc zero)))))))) first last = refl
month_is y b e (suc (suc (suc (suc (suc (suc (suc (suc (suc zero))))))))) first last = refl
month_is y b e (suc (suc (suc (suc (suc (suc (suc (suc (suc (suc zero)))))))))) first last = refl
month_is y b e (suc (suc (suc (suc (suc (suc (suc (suc (suc (suc (suc zero))))))))))) first last = refl
month_is y b e (suc (suc (suc (suc (suc (suc (suc (suc (suc (suc (suc (suc zero)))))))))))) first last = refl
month_is y b e (suc (suc (suc (suc (suc (suc (suc (suc (suc (suc (suc (suc (suc n))))))))))))) first last = absurd (omega arith)

-- ---- the months of the hundred years

year_table : all_below 100 (λ y. eqb (sum (take (12 * y) all_months)) (year_days y)) ≡ true
unfolding all_months year_days
year_table = refl

month_table : all_below 100 (λ y. bytes_eq (take 12 (drop (12 * y) all_months)) (months (is_leap y))) ≡ true
unfolding all_months
month_table = refl

of_year : (k : ℕ) (zs ms : List ℕ) → k ≤ 12 → take 12 zs ≡ ms → take k zs ≡ take k ms
of_year k zs ms h e = sym (take-take k 12 zs h) ∙ ap (take k) e

pub months_before : (y k : ℕ) → y < 100 → k ≤ 12 → sum (take (12 * y + k) all_months) ≡ year_days y + sum (take k (months (is_leap y)))
months_before y k low h =
    let year = eqb-true _ _ (below 100 (λ y. eqb (sum (take (12 * y) all_months)) (year_days y)) y year_table low) in
    let same = (bytes_eq-Decides (take 12 (drop (12 * y) all_months)) (months (is_leap y))).0 (below 100 (λ y. bytes_eq (take 12 (drop (12 * y) all_months)) (months (is_leap y))) y month_table low) in
    let part = of_year k (drop (12 * y) all_months) (months (is_leap y)) h same in
    ap sum (take-add (12 * y) k all_months) ∙ sum-append (take (12 * y) all_months) (take k (drop (12 * y) all_months)) ∙ ap (λ (n : ℕ). n + sum (take k (drop (12 * y) all_months))) year
    ∙ ap (λ (xs : List ℕ). year_days y + sum xs) part

pub number_is : (y m d n : ℕ) → y < 100 → 1 ≤ m → m ≤ 12 → 1 ≤ d → days_from_civil (pos (2000 + y)) m d +ℤ pos 4_371_587 ≡ pos n → n ≡ 4_382_544 + day_number y m d
number_is y m d n low first last day e =
    days_are y m d n low first last day e ∙ ap (λ (s : ℕ). 4_382_544 + (s + (d - 1))) (sym (months_before y (m - 1) low (omega arith)))

-- ---- which days there are

pub is_date-from_jiff : (y m d : ℕ) → y < 100 → IsDate (pos (2000 + y)) (pos m) (pos d) → is_date y m d ≡ true
is_date-from_jiff y m d low h =
    let first : 1 ≤ m = omega (arith, signed_arith, h.1) in
    let last : m ≤ 12 = omega (arith, signed_arith, h.1) in
    let size = month_is (pos (2000 + y)) (is_leap y) (leap y low) m first last in
    rw (lt-ltb y 100 low, le-leb 1 m first, le-leb m 12 last, le-leb 1 d (omega (arith, signed_arith, h.2)), le-leb d (get_or (months (is_leap y)) (m - 1) 0) (omega (arith, signed_arith, h.2, size))) refl

pub is_date-jiff : (y m d : ℕ) → is_date y m d ≡ true → IsDate (pos (2000 + y)) (pos m) (pos d)
is_date-jiff y m d e =
    let p = parts_of y m d e in
    let size = month_is (pos (2000 + y)) (is_leap y) (leap y p.year) m p.low p.high in
    ((omega (arith, signed_arith), omega (arith, signed_arith)), (omega (arith, signed_arith, p.low), omega (arith, signed_arith, p.high)), (omega (arith, signed_arith, p.first), omega (arith, signed_arith, p.last, size)))

pub same_number : (m d y a b : ℕ) → pos a ≡ pos m → pos b ≡ pos d → day_number y a b ≡ day_number y m d
same_number m d y a b em ed = let mm : a ≡ m = cc in let dd : b ≡ d = cc in rw (mm, dd) refl

month_bound : (y z : ℤ) (m k d : ℕ) → y ≡ z → m ≡ k → d ≤ days_in_month y m → d ≤ days_in_month z k
month_bound y z m k d e f h = subst (λ x. d ≤ days_in_month x k) e (subst (λ x. d ≤ days_in_month y x) f h)

pub date_is : (y m d : ℕ) (t : Date) → y < 100 → IsYmd (pos (2000 + y)) (pos m) (pos d) t → IsDate (pos (2000 + y)) (pos m) (pos d)
date_is y m d t low v =
    let mm : t.month ≡ m = let e = v.1 in cc in
    let dd : t.day ≡ d = let e = v.2 in cc in
    let last : t.day ≤ days_in_month (pos (2000 + y)) m = month_bound t.year (pos (2000 + y)) t.month m t.day v.0 mm t.day_in.1 in
    ((omega (arith, signed_arith), omega (arith, signed_arith)), (omega (arith, signed_arith, t.month_in.0, mm), omega (arith, signed_arith, t.month_in.1, mm)), (omega (arith, signed_arith, t.day_in.0, dd), omega (arith, signed_arith, last, dd)))

pub named_number : (y m d n : ℕ) → is_date y m d ≡ true → n ≡ day_number y m d → named_day y m d ≡ Ok n
named_number y m d n e s = rw (e, s) refl

-- ---- the date of a day

made_date : (y m d : ℕ) → is_date y m d ≡ true → (t : Date) × IsYmd (pos (2000 + y)) (pos m) (pos d) t
made_date y m d e =
    let p = parts_of y m d e in
    let size = month_is (pos (2000 + y)) (is_leap y) (leap y p.year) m p.low p.high in
    let civil = is_date-jiff y m d e in
    (record { year = pos (2000 + y); month = m; day = d; year_in = civil.0; month_in = (p.low, p.high); day_in = (p.first, omega (arith, p.last, size)) }, (refl, refl, refl))

epoch_is : (y m d : ℕ) → is_date y m d ≡ true → days_from_civil (pos (2000 + y)) m d +ℤ pos 4_371_587 ≡ pos (day_number y m d + 4_382_544)
epoch_is y m d e =
    let p = parts_of y m d e in
    omega (arith, signed_arith, count_is y m d p.year p.low p.high p.first, months_before y (m - 1) p.year (let h = p.high in omega arith), days_from_civil-day_count (pos (2000 + y)) m d)

same_epoch : (y : ℤ) (m d : ℕ) (a : Date) (n : ℕ) (t : Date) → IsYmd y (pos m) (pos d) a → days_from_civil y m d +ℤ pos 4_371_587 ≡ pos (n + 4_382_544) → epoch_day t +ℤ pos 4_371_587 ≡ pos (n + 4_382_544) → epoch_day t ≡ epoch_day a
same_epoch y m d a n t v e f =
    let mm : a.month ≡ m = let q = v.1 in cc in
    let dd : a.day ≡ d = let q = v.2 in cc in
    let civil : epoch_day a ≡ days_from_civil y m d = ap (λ (z : ℤ). days_from_civil z a.month a.day) v.0 ∙ ap (λ (k : ℕ). days_from_civil y k a.day) mm ∙ ap (λ (k : ℕ). days_from_civil y m k) dd in
    omega (arith, signed_arith, civil, e, f)

date_at : (y m d n : ℕ) (t : Date) → is_date y m d ≡ true → day_number y m d ≡ n → epoch_day t +ℤ pos 4_371_587 ≡ pos (n + 4_382_544) → IsYmd (pos (2000 + y)) (pos m) (pos d) t
date_at y m d n t e s f =
    let a = made_date y m d e in
    let i = epoch_day_injective t a.0 (same_epoch (pos (2000 + y)) m d a.0 n t a.1 (epoch_is y m d e ∙ ap (λ (k : ℕ). pos (k + 4_382_544)) s) f) in
    (i.0 ∙ a.1.0, ap pos i.1 ∙ a.1.1, ap pos i.2 ∙ a.1.2)

pub date_found : (n : ℕ) (t : Date) → n ≤ last_day → epoch_day t +ℤ pos 4_371_587 ≡ pos (n + 4_382_544) → IsYmd (pos (2000 + year_of n)) (pos (month_of n)) (pos (day_of n)) t
date_found n t h f = let date = date_of_day n h in date_at (year_of n) (month_of n) (day_of n) n t date.0 date.1 f

digits_same : (a b m k d e : ℕ) → a ≡ b → m ≡ k → d ≡ e → date_digits a m d ≡ date_digits b k e
digits_same a b m k d e p q r = rw (p, q, r) refl

pub digits_are : (n a : ℕ) (t : Date) → n ≤ last_day → IsYmd (pos (2000 + year_of n)) (pos (month_of n)) (pos (day_of n)) t
    → ((y : ℕ) → y < 100 → t.year ≡ pos (2000 + y) → a ≡ y) → date_digits a t.month t.day ≡ date_of n
digits_are n a t h v f =
    let year = (parts_of (year_of n) (month_of n) (day_of n) (date_of_day n h).0).year in
    digits_same a (year_of n) t.month (month_of n) t.day (day_of n) (f (year_of n) year v.0) (let q = v.1 in cc) (let q = v.2 in cc)
