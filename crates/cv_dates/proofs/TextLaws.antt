-- The same in ASCII.
use Rattle.std.proofs.Common.{◌≡◌, ℕ, ◌+◌, ◌-◌, ◌≤◌, Bool, true, false, cond, not, ltb, leb, eqb, List, [], ◌∷◌, length, map, Result, Ok, Err, Some, get_or, refl, sym, ap, ◌∙◌, arith, subst}
use Rattle.std.specs.List.{list_all}
use Rattle.std.proofs.lemmas.List.{length-map}
use Rattle.std.proofs.lemmas.Bool.{leb-true}
use Rattle.eac_base.specs.Answers.{Answers}
use Rattle.eac_base.specs.Bytes.{is_within}
use Rattle.cv_dates.specs.declared.refusal.DateRefusal.{DateRefusal}
use Rattle.cv_dates.specs.declared.refusal.DateRefusal.TheVariants.{Length, Digit}
use Rattle.cv_dates.specs.Calendar.{EachTextIsRead, TextReadIsTheText, TextsAreRead, IsTextOf, read_date, named_day, pair_at, date_of, ascii, day_text, day_from_text, last_day}
use Rattle.cv_dates.proofs.Months.{both, is_date_of}
use Rattle.cv_dates.proofs.DateLaws.{passed, each_day_is_read, read_is_the_text, dates_are_read}

abbrev pub without_ascii : List ℕ → List ℕ
without_ascii text = map (λ b. b - 48) text

back : (digits : List ℕ) → without_ascii (ascii digits) ≡ digits
back [] = refl
back (d ∷ digits) = rw (less d, back digits) refl
  where
    less : (n : ℕ) → (48 + n) - 48 ≡ n
    less n = omega arith

same_test : (d : ℕ) → is_within 48 57 (48 + d) ≡ ltb d 10
same_test d = grind arith

same_tests : (digits : List ℕ) → list_all (is_within 48 57) (ascii digits) ≡ list_all (λ d. ltb d 10) digits
same_tests [] = refl
same_tests (d ∷ digits) = rw (same_test d, same_tests digits) refl

twice : (a b : Bool) (x : Result ℕ DateRefusal)
    → cond (not a) (Err Length) (cond (not b) (Err Digit) (cond (not a) (Err Length) (cond (not b) (Err Digit) x))) ≡ cond (not a) (Err Length) (cond (not b) (Err Digit) x)
twice true true x = refl
twice true false x = refl
twice false b x = refl

pub text_read : (digits : List ℕ) → day_from_text (ascii digits) ≡ read_date digits
text_read digits =
    rw (length-map digits (λ (d : ℕ). 48 + d), same_tests digits, back digits)
    (twice (eqb (length digits) 6) (list_all (λ d. ltb d 10) digits) (named_day (pair_at 0 digits) (pair_at 2 digits) (pair_at 4 digits)))

pub each_text_is_read : EachTextIsRead
each_text_is_read number h = text_read (date_of number) ∙ each_day_is_read number h

forth : (text : List ℕ) → list_all (is_within 48 57) text ≡ true → text ≡ ascii (without_ascii text)
forth [] e = refl
forth (b ∷ text) e =
    let parts = both (is_within 48 57 b) (list_all (is_within 48 57) text) e in
    let within = both (leb 48 b) (leb b 57) parts.0 in
    first b text (ascii (without_ascii text)) (leb-true 48 b within.0) (forth text parts.1)
  where
    more : (n : ℕ) → 48 ≤ n → n ≡ 48 + (n - 48)
    more n h = omega arith

    first : (n : ℕ) (xs ys : List ℕ) → 48 ≤ n → xs ≡ ys → n ∷ xs ≡ (48 + (n - 48)) ∷ ys
    first n xs ys h e = ap (λ (m : ℕ). m ∷ xs) (more n h) ∙ ap (λ (zs : List ℕ). (48 + (n - 48)) ∷ zs) e

pub read_text : (text : List ℕ) (number : ℕ) → day_from_text text ≡ Ok number → (text ≡ ascii (without_ascii text)) × (read_date (without_ascii text) ≡ Ok number)
read_text text number e =
    let l = passed (eqb (length text) 6) Length _ number e in
    let d = passed (list_all (is_within 48 57) text) Digit _ number l.1 in
    (forth text d.0, d.1)

pub text_read_is_the_text : TextReadIsTheText
text_read_is_the_text text number e =
    let read = read_text text number e in
    let is = read_is_the_text (without_ascii text) number read.1 in
    (is.0, read.0 ∙ ap ascii is.1)

pub texts_are_read : TextsAreRead
texts_are_read text number = (
  (λ e. let read = read_text text number e in (without_ascii text, (dates_are_read (without_ascii text) number).0 read.1, read.0)),
  (λ h. ap day_from_text h.2 ∙ text_read h.0 ∙ (dates_are_read h.0 number).1 h.1),
)

pub is_text_of : (number : ℕ) → number ≤ last_day → IsTextOf number (day_text number)
is_text_of number h = (date_of number, is_date_of number h, refl)

-- ---- a reader of texts that asks the reader of dates

abbrev AnswersDay : Result ℕ DateRefusal → Result ℕ DateRefusal → Type 0
AnswersDay result said = Answers (λ (d : ℕ). d) (λ (e : DateRefusal). Some e) result said

digits_in : (text : List ℕ) → length text ≡ 6
    → (get_or text 0 0 - 48) ∷ (get_or text 1 0 - 48) ∷ (get_or text 2 0 - 48) ∷ (get_or text 3 0 - 48) ∷ (get_or text 4 0 - 48) ∷ (get_or text 5 0 - 48) ∷ [] ≡ without_ascii text
digits_in [] h = absurd (omega arith)
digits_in (a ∷ []) h = absurd (omega arith)
digits_in (a ∷ b ∷ []) h = absurd (omega arith)
digits_in (a ∷ b ∷ c ∷ []) h = absurd (omega arith)
digits_in (a ∷ b ∷ c ∷ d ∷ []) h = absurd (omega arith)
digits_in (a ∷ b ∷ c ∷ d ∷ e ∷ []) h = absurd (omega arith)
digits_in (a ∷ b ∷ c ∷ d ∷ e ∷ f ∷ []) h = refl
digits_in (a ∷ b ∷ c ∷ d ∷ e ∷ f ∷ g ∷ more) h = absurd (omega arith)

text_said : (text : List ℕ) → length text ≡ 6 → list_all (is_within 48 57) text ≡ true → day_from_text text ≡ read_date (without_ascii text)
text_said text size digits = rw (size, digits) refl

pub text_answers : (text : List ℕ) (result : Result ℕ DateRefusal) → length text ≡ 6 → list_all (is_within 48 57) text ≡ true
    → AnswersDay result (read_date ((get_or text 0 0 - 48) ∷ (get_or text 1 0 - 48) ∷ (get_or text 2 0 - 48) ∷ (get_or text 3 0 - 48) ∷ (get_or text 4 0 - 48) ∷ (get_or text 5 0 - 48) ∷ []))
    → AnswersDay result (day_from_text text)
text_answers text result size digits answer =
    subst (AnswersDay result) (ap read_date (digits_in text size) ∙ sym (text_said text size digits)) answer
