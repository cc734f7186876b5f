-- What the bytes of one slot say of the memory.
use Rattle.std.proofs.Common.{◌≡◌, ℕ, zero, suc, ◌+◌, ◌-◌, ◌*◌, List, [], ◌∷◌, take, drop, None, cond, refl, sym, ◌∙◌, ap, arith, get_or-take, get_or-drop, drop-drop}
use Rattle.std.specs.Prelude.{slice_index, slice_range}
use Rattle.chip_slots.specs.Slot.{record_of}
use Rattle.chip_slots.specs.Image.{Reading, is_open, gate, behind_gate, slot_says}

abbrev no_bytes : List ℕ
no_bytes = []

take_none : (n : ℕ) → take n (no_bytes) ≡ no_bytes
take_none zero = refl
take_none (suc n) = refl

drop_front : (n : ℕ) (xs : List ℕ) → drop 1 (take (suc n) xs) ≡ take n (drop 1 xs)
drop_front n [] = sym (take_none n)
drop_front n (x ∷ xs) = refl

pub slot_seen : (slots slot : ℕ) (bytes image : List ℕ) (r : Reading) (size : ℕ) → size ≡ 8192 → bytes ≡ slice_range image (8192 * slot) (8192 * slot + size) → r ≡ cond (is_open (slice_index bytes 0)) (record_of slots slot (drop 1 bytes)) None → r ≡ slot_says slots image slot
slot_seen slots slot bytes image r size whole is said =
    let count : 8192 * slot + size - 8192 * slot ≡ 8192 = omega (arith, whole) in
    let part : bytes ≡ take 8192 (drop (8192 * slot) image) = is ∙ ap (λ (n : ℕ). take n (drop (8192 * slot) image)) count in
    let at : 8192 * slot + 0 ≡ 8192 * slot = omega arith in
    let gates : slice_index bytes 0 ≡ gate image slot =
    ap (λ (l : List ℕ). slice_index l 0) part ∙ get_or-take 8192 (drop (8192 * slot) image) 0 0 (omega arith) ∙ get_or-drop (8192 * slot) image 0 0 ∙ ap (slice_index image) at in
    let behind : drop 1 bytes ≡ behind_gate image slot =
    ap (drop 1) part ∙ drop_front 8191 (drop (8192 * slot) image) ∙ ap (take 8191) (drop-drop 1 (8192 * slot) image ∙ ap (λ (n : ℕ). drop n image) (omega arith)) in
    said ∙ ap (λ (g : ℕ). cond (is_open g) (record_of slots slot (drop 1 bytes)) None) gates ∙ ap (λ (l : List ℕ). cond (is_open (gate image slot)) (record_of slots slot l) None) behind
