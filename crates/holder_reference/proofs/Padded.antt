-- Bytes at the front of an array of zeros.
use Rattle.std.proofs.Common.{◌≡◌, ℕ, ◌-◌, ◌≤◌, List, ◌++◌, length, take, drop, replicate, refl, arith}
use Rattle.std.proofs.lemmas.List.{take_at, length-append, length-drop, length-replicate, drop-replicate}

pub record Padded (n : ℕ) (bytes kept : List ℕ) : Type 0 where
  pub size : length kept ≡ n
  pub parts : kept ≡ take (length bytes) kept ++ replicate (n - length bytes) 0
  pub front : take (length bytes) kept ≡ bytes

pub padded : (n : ℕ) (bytes : List ℕ) → length bytes ≤ n → Padded n bytes (bytes ++ drop (length bytes) (replicate n 0))
padded n bytes fits =
    let zero : ℕ = 0 in
    let zeros : List ℕ = replicate n 0 in
    let front = take_at bytes (drop (length bytes) zeros) (length bytes) refl in
    record {
      size = omega (arith, length-append bytes (drop (length bytes) zeros), length-drop (length bytes) zeros, length-replicate n zero);
      parts = rw (front, drop-replicate (length bytes) n zero) refl;
      front = front;
    }
