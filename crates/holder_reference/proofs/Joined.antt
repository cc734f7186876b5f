-- A holder and a sequence in an array of sixteen bytes.
use Rattle.std.proofs.Common.{◌≡◌, ℕ, ◌+◌, List, ◌++◌, length, take, refl, ◌∙◌, ap, arith}
use Rattle.std.specs.Prelude.{IsTrue}
use Rattle.std.proofs.lemmas.List.{take_at, length-append}
use Rattle.std.proofs.lemmas.Grind.{common_steps}
use Rattle.std.proofs.lemmas.Slice.{take-put_mid}
use borrow.Rule.Slice.PartMut.{put_mid}
use Rattle.holder_reference.specs.Reference.{is_reference, is_holder, is_sequence}

-- The second part is written behind the first.
pub joined_list : (front back rest : List ℕ) (k : ℕ) → length back ≡ 5 → take (length front + 5) (put_mid (length front) k (front ++ rest) back) ≡ front ++ back
joined_list front back rest k five =
    take-put_mid (length front) k (front ++ rest) back (length front + 5) (omega arith) (omega (arith, length-append front rest))
    ∙ ap (λ l. l ++ back) (take_at front rest (length front) refl)

pub joined_bytes : (holder sequence front back rest : List ℕ) (k : ℕ) → front ≡ holder → back ≡ sequence → length sequence ≡ 5
    → take (length holder + 5) (put_mid (length holder) k (front ++ rest) back) ≡ holder ++ sequence
joined_bytes holder sequence front back rest k f b five = rw (f, b) (joined_list holder sequence rest k five)

pub joined_reference : (holder sequence : List ℕ) → IsTrue (is_holder holder) → IsTrue (is_sequence sequence) → IsTrue (is_reference (holder ++ sequence))
joined_reference holder sequence h s = grind (arith, common_steps)
