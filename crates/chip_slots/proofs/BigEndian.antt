-- The bytes of a number, the highest first, as std gives them.
use Rattle.std.proofs.Common.{◌≡◌, ℕ, zero, suc, ◌/◌, ◌%◌, ◌^◌, List, [], ◌∷◌, ◌++◌, refl, sym, ◌∙◌, ap}
use Rattle.std.proofs.Math.Nat.{div-div-eq-div-mul, pow-succ'}
use Rattle.std.specs.Int.{byte_at, bytes_high_first}
use Rattle.eac_base.specs.Bytes.{big_endian}

byte_next : (k n : ℕ) → byte_at (suc k) n ≡ byte_at k (n / 256)
byte_next zero n = refl
byte_next (suc k) n = ap (λ (d : ℕ). n / d % 256) (pow-succ' 256 (suc k)) ∙ ap (λ (q : ℕ). q % 256) (sym (div-div-eq-div-mul n 256 (256 ^ suc k)))

bytes_next : (k n : ℕ) → bytes_high_first (suc k) n ≡ bytes_high_first k (n / 256) ++ (n % 256) ∷ []
bytes_next zero n = refl
bytes_next (suc k) n = (λ i. byte_next k n i ∷ bytes_next k n i)

pub big_endian_is : (k n : ℕ) → bytes_high_first k n ≡ big_endian k n
big_endian_is zero n = refl
big_endian_is (suc k) n = bytes_next k n ∙ ap (λ (l : List ℕ). l ++ (n % 256) ∷ []) (big_endian_is k (n / 256))
