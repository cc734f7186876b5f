-- Dates of six digits: what is read is the day's one text, and what the relation says.
use Rattle.std.proofs.Common.{◌≡◌, ℕ, ◌+◌, ◌*◌, ◌/◌, ◌%◌, ◌<◌, ◌≤◌, Bool, true, false, cond, not, ltb, eqb, List, [], ◌∷◌, length, Result, Ok, Err, Some, refl, sym, ap, ◌∙◌, arith}
use Rattle.std.specs.Prelude.{IfOk}
use Rattle.std.specs.List.{list_all}
use Rattle.std.proofs.lemmas.Bool.{ltb-true, lt-ltb, eqb-true}
use Rattle.eac_base.specs.Answers.{Answers}
use Rattle.cv_dates.specs.declared.refusal.DateRefusal.{DateRefusal}
use Rattle.cv_dates.specs.declared.refusal.DateRefusal.TheVariants.{Length, Digit, NoSuchDay}
use Rattle.cv_dates.specs.Calendar.{EachDayIsRead, ReadIsTheText, DatesAreRead, IsDateOf, read_date, date_of, date_digits, named_day, is_date, day_number, year_of, month_of, day_of, last_day}
use Rattle.cv_dates.proofs.Months.{both, met, named_is, named_again, date_of_day, is_date_of, parts_of, short_month}

-- ---- what is written is read

pub passed : {A : Type 0} (b : Bool) (f : DateRefusal) (x : Result A DateRefusal) (y : A) → cond (not b) (Err f) x ≡ Ok y → (b ≡ true) × (x ≡ Ok y)
passed true f x y e = (refl, e)
passed false f x y e = absurd cc

digits_read : (y m d : ℕ) → y < 100 → m < 100 → d < 100 → read_date (date_digits y m d) ≡ named_day y m d
digits_read y m d hy hm hd =
    rw (
      lt-ltb (y / 10) 10 (omega arith),
      lt-ltb (y % 10) 10 (omega arith),
      lt-ltb (m / 10) 10 (omega arith),
      lt-ltb (m % 10) 10 (omega arith),
      lt-ltb (d / 10) 10 (omega arith),
      lt-ltb (d % 10) 10 (omega arith),
      tens y hy,
      tens m hm,
      tens d hd,
    ) refl
  where
    tens : (n : ℕ) → n < 100 → 10 * (n / 10) + n % 10 ≡ n
    tens n h = omega arith

date_read : (y m d : ℕ) → is_date y m d ≡ true → read_date (date_digits y m d) ≡ named_day y m d
date_read y m d e = let short = short_month y m d e in digits_read y m d (parts_of y m d e).year short.0 short.1

pub each_day_is_read : EachDayIsRead
each_day_is_read number h = date_read (year_of number) (month_of number) (day_of number) (date_of_day number h).0 ∙ named_again number h

pub digits_of_day : (number : ℕ) → number ≤ last_day → list_all (λ d. ltb d 10) (date_of number) ≡ true
digits_of_day number h = (passed (list_all (λ d. ltb d 10) (date_of number)) Digit _ number (each_day_is_read number h)).0

-- ---- what is read is the text

two : (a b : ℕ) → a < 10 → b < 10 → ((10 * a + b) / 10 ≡ a) × ((10 * a + b) % 10 ≡ b)
two a b ha hb = (omega arith, omega arith)

digits_of : (a b c d e f : ℕ) → a < 10 → b < 10 → c < 10 → d < 10 → e < 10 → f < 10 → date_digits (10 * a + b) (10 * c + d) (10 * e + f) ≡ a ∷ b ∷ c ∷ d ∷ e ∷ f ∷ []
digits_of a b c d e f ha hb hc hd he hf =
    let x = two a b ha hb in let y = two c d hc hd in let z = two e f he hf in
    rw (x.0, x.1, y.0, y.1, z.0, z.1) refl

six : (digits : List ℕ) (number : ℕ) → length digits ≡ 6 → list_all (λ d. ltb d 10) digits ≡ true → read_date digits ≡ Ok number
    → (number ≤ last_day) × (digits ≡ date_of number)
six [] number h t n = absurd (omega arith)
six (a ∷ []) number h t n = absurd (omega arith)
six (a ∷ b ∷ []) number h t n = absurd (omega arith)
six (a ∷ b ∷ c ∷ []) number h t n = absurd (omega arith)
six (a ∷ b ∷ c ∷ d ∷ []) number h t n = absurd (omega arith)
six (a ∷ b ∷ c ∷ d ∷ e ∷ []) number h t n = absurd (omega arith)
six (a ∷ b ∷ c ∷ d ∷ e ∷ f ∷ g ∷ more) number h t n = absurd (omega arith)
six (a ∷ b ∷ c ∷ d ∷ e ∷ f ∷ []) number h t n =
    let ta = both (ltb a 10) _ t in let tb = both (ltb b 10) _ ta.1 in let tc = both (ltb c 10) _ tb.1 in
    let td = both (ltb d 10) _ tc.1 in let te = both (ltb e 10) _ td.1 in let tf = both (ltb f 10) _ te.1 in
    let day = (passed (list_all (λ d. ltb d 10) (a ∷ b ∷ c ∷ d ∷ e ∷ f ∷ [])) Digit (named_day (10 * a + b) (10 * c + d) (10 * e + f)) number n).1 in
    let m = met (is_date (10 * a + b) (10 * c + d) (10 * e + f)) NoSuchDay (day_number (10 * a + b) (10 * c + d) (10 * e + f)) number day in
    let is = named_is (10 * a + b) (10 * c + d) (10 * e + f) m.0 in
    let ds = digits_of a b c d e f (ltb-true a 10 ta.0) (ltb-true b 10 tb.0) (ltb-true c 10 tc.0) (ltb-true d 10 td.0) (ltb-true e 10 te.0) (ltb-true f 10 tf.0) in
    (le_same _ _ last_day m.1 is.0, sym ds ∙ sym is.1 ∙ ap date_of m.1)
  where
    le_same : (x y z : ℕ) → x ≡ y → x ≤ z → y ≤ z
    le_same x y z q h = rw (← q) h

pub read_is_the_text : ReadIsTheText
read_is_the_text digits number e =
    let l = passed (eqb (length digits) 6) Length _ number e in
    let d = passed (list_all (λ x. ltb x 10) digits) Digit _ number l.1 in
    six digits number (eqb-true (length digits) 6 l.0) d.0 e

-- ---- what is read is what the relation says

as_date : (digits : List ℕ) (number : ℕ) → digits ≡ date_of number → IsDateOf number (date_of number) → IsDateOf number digits
as_date digits number e h = rw e h

pub dates_are_read : DatesAreRead
dates_are_read digits number = (
  (λ e. let text = read_is_the_text digits number e in as_date digits number text.1 (is_date_of number text.0)),
  (λ h. related h.0 h.1 h.2 h.3 h.4 h.5),
)
  where
    related : (y m d : ℕ) → is_date y m d ≡ true → digits ≡ date_digits y m d → number ≡ day_number y m d → read_date digits ≡ Ok number
    related y m d e text day = ap read_date text ∙ date_read y m d e ∙ rw (e, day) refl

-- ---- a reader's answer, seen as the relation

pub found_of : (said : Result ℕ DateRefusal) (P : ℕ → Type 0) (result : Result ℕ DateRefusal)
    → Answers (λ (d : ℕ). d) (λ (e : DateRefusal). Some e) result said → ((n : ℕ) → said ≡ Ok n → P n) → IfOk result P
found_of said P (Ok n) a h = h n a
found_of said P (Err e) a h = tt

pub only_of : (said : Result ℕ DateRefusal) (number : ℕ) (result : Result ℕ DateRefusal)
    → Answers (λ (d : ℕ). d) (λ (e : DateRefusal). Some e) result said → said ≡ Ok number → result ≡ Ok number
only_of said number (Ok n) a e = sym a ∙ e
only_of said number (Err f) a e = absurd cc
