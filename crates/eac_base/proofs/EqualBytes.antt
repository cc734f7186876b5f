-- The test on bytes is equality.
use Rattle.std.proofs.Common.{◌≡◌, ℕ, Bool, true, false, List, refl, sym, true≢false}
use Rattle.std.specs.Prelude.{◌↔◌, IsTrue}
use Rattle.std.specs.Str.{bytes_eq}
use Rattle.std.proofs.lemmas.Slice.Eq.{bytes_eq-Decides}

pub bytes_eq-true : (xs ys : List ℕ) → bytes_eq xs ys ≡ true → xs ≡ ys
bytes_eq-true xs ys e = (bytes_eq-Decides xs ys).0 e

pub bytes_eq-self : (xs : List ℕ) → bytes_eq xs xs ≡ true
bytes_eq-self xs = (bytes_eq-Decides xs xs).1 refl

-- what tells equality of bytes is the test
pub tells_bytes_eq : (b : Bool) (xs ys : List ℕ) → IsTrue b ↔ (xs ≡ ys) → b ≡ bytes_eq xs ys
tells_bytes_eq true xs ys h = sym ((bytes_eq-Decides xs ys).1 (h.0 refl))
tells_bytes_eq false xs ys h = elim (bytes_eq xs ys) as (λ b. (b ≡ true → ⊥) → false ≡ b) [ true ↦ λ no. absurd (no refl) | false ↦ λ no. refl ] (λ e. true≢false (sym (h.1 (bytes_eq-true xs ys e))))

pub bytes_eq-sym : (xs ys : List ℕ) → bytes_eq xs ys ≡ bytes_eq ys xs
bytes_eq-sym xs ys = sym (tells_bytes_eq (bytes_eq ys xs) xs ys ((λ e. sym (bytes_eq-true ys xs e)), (λ (e : xs ≡ ys). (bytes_eq-Decides ys xs).1 (sym e))))
