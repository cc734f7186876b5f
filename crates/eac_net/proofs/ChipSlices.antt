-- One place of a list is another value.
use Rattle.std.proofs.Common.{◌≡◌, ◌≢◌, ◌<◌, ℕ, zero, suc, List, [], ◌∷◌, length, Some, refl, ap, arith}
use Rattle.std.specs.Prelude.{slice_get, slice_set}

module _ {X : Type 0} where
  pub get_set_same : (xs : List X) (i : ℕ) (x : X) → i < length xs → slice_get (slice_set xs i x) i ≡ Some x
  get_set_same [] i x lt = absurd (omega (arith, lt))
  get_set_same (y ∷ xs) zero x lt = refl
  get_set_same (y ∷ xs) (suc i) x lt = get_set_same xs i x (omega (arith, lt))

  pub get_set_other : (xs : List X) (i j : ℕ) (x : X) → j ≢ i → slice_get (slice_set xs i x) j ≡ slice_get xs j
  get_set_other [] i j x ne = refl
  get_set_other (y ∷ xs) zero zero x ne = absurd (ne refl)
  get_set_other (y ∷ xs) zero (suc j) x ne = refl
  get_set_other (y ∷ xs) (suc i) zero x ne = refl
  get_set_other (y ∷ xs) (suc i) (suc j) x ne = get_set_other xs i j x (λ e. ne (ap suc e))

  pub some_same : (x y : X) → Some x ≡ Some y → x ≡ y
  some_same x y e = cc
