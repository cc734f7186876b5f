-- Rights and their bits.
use Rattle.std.proofs.Common.{◌≡◌, ℕ, zero, suc, ◌+◌, ◌*◌, ◌<◌, ◌↔◌, bit_and, sym, ◌∙◌, min, arith, ap₂, refl}
use Rattle.std.specs.Int.{bit_at}
use Rattle.std.proofs.lemmas.Bool.Decides.{nat_tests}
use Rattle.std.proofs.lemmas.Nat.Bits.{bit_at_and}
use Rattle.chat_rights.specs.declared.Kind.TheVariants.{Inspection}
use Rattle.chat_rights.specs.Rights.{Grants}
use Rattle.chat_rights.specs.Laws.{SameBitsSameRights}

pub Grants-bit_and : (a b bit : ℕ) → Grants (bit_and a b) bit ↔ (Grants a bit × Grants b bit)
Grants-bit_and a b bit = (
  λ e. let m : min (bit_at a bit) (bit_at b bit) ≡ 1 = sym (bit_at_and a b bit) ∙ e in (omega arith, omega arith),
  λ both. let x = both.0 in let y = both.1 in bit_at_and a b bit ∙ ap₂ min x y,
)

-- a number below 64 is the sum of its bits
six_bits : (n : ℕ) → n < 64 → n ≡ bit_at n 0 + 2 * bit_at n 1 + 4 * bit_at n 2 + 8 * bit_at n 3 + 16 * bit_at n 4 + 32 * bit_at n 5
six_bits n h = omega arith

-- two remainders of 2 that are 1 together are the same
same_bit : (x y : ℕ) → x < 2 → y < 2 → (x ≡ 1) ↔ (y ≡ 1) → x ≡ y
same_bit zero zero p q e = refl
same_bit (suc zero) (suc zero) p q e = refl
same_bit zero (suc zero) p q e = e.1 refl
same_bit (suc zero) zero p q e = sym (e.0 refl)
same_bit (suc (suc x)) y p q e = absurd (omega arith)
same_bit x (suc (suc y)) p q e = absurd (omega arith)

small_bit : (n bit : ℕ) → bit_at n bit < 2
small_bit n bit = omega arith

same_six : (left right : ℕ) → left < 64 → right < 64 → ((bit : ℕ) → bit < 6 → Grants left bit ↔ Grants right bit) → left ≡ right
same_six left right l r same =
    let at : (bit : ℕ) → bit < 6 → bit_at left bit ≡ bit_at right bit = λ bit low. same_bit (bit_at left bit) (bit_at right bit) (small_bit left bit) (small_bit right bit) (same bit low) in
    omega (arith, six_bits left l, six_bits right r, at 0 (omega arith), at 1 (omega arith), at 2 (omega arith), at 3 (omega arith), at 4 (omega arith), at 5 (omega arith))

pub same_rights : SameBitsSameRights
same_rights Inspection left right l r same = same_six left right (grind (arith, nat_tests)) (grind (arith, nat_tests)) same
