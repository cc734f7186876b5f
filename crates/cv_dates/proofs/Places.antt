-- A day's place among months of given lengths.
use Rattle.std.proofs.Common.{add-one, zero-add, ◌≡◌, ℕ, zero, suc, ◌+◌, ◌-◌, ◌<◌, ◌≤◌, Bool, true, false, cond, ltb, List, [], ◌∷◌, length, take, get_or, refl, ap, ◌∙◌, arith}
use Rattle.std.specs.Prelude.{sum}
use Rattle.std.proofs.lemmas.List.Sums.{sum_by-cons}
use Rattle.std.proofs.lemmas.Bool.{ltb-true, ltb-false, lt-ltb, le-ltb}
use Rattle.cv_dates.specs.Calendar.{place_in}

-- ---- each number has a place

pub record IsPlace (months : List ℕ) (number : ℕ) (place : ℕ × ℕ) : Type 0 where
  pub month : place.0 < length months
  pub day : place.1 < get_or months place.0 0
  pub number_is : sum (take place.0 months) + place.1 ≡ number

step : (days : ℕ) (months : List ℕ) (number : ℕ) (b : Bool) → ltb number days ≡ b → number < days + sum months
    → ((number - days < sum months) → IsPlace months (number - days) (place_in months (number - days)))
    → IsPlace (days ∷ months) number (cond b (0, number) (let later = place_in months (number - days) in (later.0 + 1, later.1)))
step days months number true e h rest = record { month = omega arith; day = ltb-true number days e; number_is = omega arith }
step days months number false e h rest =
    let long = ltb-false number days e in
    let r = rest (omega arith) in
    let later = place_in months (number - days) in
    record {
      month = let m = r.month in omega arith;
      day = rw add-one r.day;
      number_is = rw (add-one, sum_by-cons (λ (x : ℕ). x) days (take later.0 months)) (let n = r.number_is in omega arith);
    }

pub place_is : (months : List ℕ) (number : ℕ) → number < sum months → IsPlace months number (place_in months number)
place_is [] number h = absurd (omega arith)
place_is (days ∷ months) number h =
    step days months number (ltb number days) refl (rw (← sum_by-cons (λ (x : ℕ). x) days months) h) (place_is months (number - days))

-- ---- a place that is given is found

place_step : (m : ℕ) (ms : List ℕ) (n i d : ℕ) → m ≤ n → place_in ms (n - m) ≡ (i, d) → place_in (m ∷ ms) n ≡ (suc i, d)
place_step m ms n i d long e = rw (le-ltb n m long, e, add-one) refl

place_first : (m : ℕ) (ms : List ℕ) (d : ℕ) → d < m → place_in (m ∷ ms) d ≡ (0, d)
place_first m ms d h = rw (lt-ltb d m h) refl

minus : (m s d : ℕ) → (m + s + d) - m ≡ s + d
minus m s d = omega arith

pub place_of : (ms : List ℕ) (i d : ℕ) → i < length ms → d < get_or ms i 0 → place_in ms (sum (take i ms) + d) ≡ (i, d)
place_of [] i d h k = absurd (omega arith)
place_of (m ∷ ms) zero d h k = rw (zero-add) (place_first m ms d k)
place_of (m ∷ ms) (suc i) d h k =
    let rest = place_of ms i d (omega arith) k in
    rw (sum_by-cons (λ (x : ℕ). x) m (take i ms))
    (place_step m ms (m + sum (take i ms) + d) i d (omega arith) (ap (place_in ms) (minus m (sum (take i ms)) d) ∙ rest))

pub before_end : (ms : List ℕ) (i d : ℕ) → i < length ms → d < get_or ms i 0 → sum (take i ms) + d < sum ms
before_end [] i d h k = absurd (omega arith)
before_end (m ∷ ms) zero d h k = rw (sum_by-cons (λ (x : ℕ). x) m ms) (omega arith)
before_end (m ∷ ms) (suc i) d h k =
    let rest = before_end ms i d (omega arith) k in
    rw (sum_by-cons (λ (x : ℕ). x) m ms, sum_by-cons (λ (x : ℕ). x) m (take i ms)) (omega arith)

-- A day of an earlier month comes before the first day of a later one.
pub before_later : (ms : List ℕ) (i j d : ℕ) → i < j → d < get_or ms i 0 → sum (take i ms) + d < sum (take j ms)
before_later [] i j d h k = absurd (omega arith)
before_later (m ∷ ms) i zero d h k = absurd (omega arith)
before_later (m ∷ ms) zero (suc j) d h k = rw (sum_by-cons (λ (x : ℕ). x) m (take j ms)) (omega arith)
before_later (m ∷ ms) (suc i) (suc j) d h k =
    let rest = before_later ms i j d (omega arith) k in
    rw (sum_by-cons (λ (x : ℕ). x) m (take j ms), sum_by-cons (λ (x : ℕ). x) m (take i ms)) (omega arith)
