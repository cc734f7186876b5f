-- Texts one behind the other.
use Rattle.std.proofs.Common.{◌≡◌, ◌+◌, ℕ, zero, suc, List, [], ◌∷◌, ◌++◌, length, drop, Some, refl, sym, ap, ◌∙◌, append_assoc, append-nil, arith}
use Rattle.std.specs.Prelude.{codes, map, slice_get}
use Rattle.holder_core.specs.declared.received.Item.{Item}
use Rattle.eac_net.specs.Delivered.{item_text, behind, listed, joined}
use Rattle.eac_net.proofs.Finding.{some_same, none_some}

listed_last : (at : ℕ) (texts : List (List ℕ)) (last : List ℕ) → listed at (texts ++ last ∷ []) ≡ listed at texts ++ behind (at + length texts) last
listed_last at [] last = append-nil (behind at last) ∙ ap (λ (n : ℕ). behind n last) (let same : at ≡ at + 0 = omega arith in same)
listed_last at (t ∷ texts) last =
    let next : at + 1 + length texts ≡ at + suc (length texts) = omega arith in
    ap (λ (l : List ℕ). behind at t ++ l) (listed_last (at + 1) texts last ∙ ap (λ (n : ℕ). listed (at + 1) texts ++ behind n last) next)
    ∙ sym (append_assoc (behind at t) (listed (at + 1) texts) (behind (at + suc (length texts)) last))

module _ {A : Type 0} (text_of : A → List ℕ) where
  -- the text at a place, and those behind it
  dropped : (items : List A) (at : ℕ) (item : A) → slice_get items at ≡ Some item → drop at (map text_of items) ≡ text_of item ∷ drop (suc at) (map text_of items)
  dropped [] at item e = absurd (none_some item e)
  dropped (x ∷ items) zero item e = λ j. text_of (some_same x item e j) ∷ map text_of items
  dropped (x ∷ items) (suc at) item e = dropped items at item e

  past : (items : List A) (at : ℕ) → length items ≡ at → drop at (map text_of items) ≡ []
  past [] zero e = refl
  past [] (suc at) e = refl
  past (x ∷ items) zero e = absurd (omega (arith, e))
  past (x ∷ items) (suc at) e = past items at (omega (arith, e))

  -- what was written, with the texts from this place on, is the whole
  abbrev pub IsWritten : List A → ℕ → List ℕ → Type 0
  IsWritten items at text = text ++ listed at (drop at (map text_of items)) ≡ listed 0 (map text_of items)

  pub written_more : (items : List A) (at : ℕ) (item : A) (text more : List ℕ) → slice_get items at ≡ Some item → more ≡ text ++ behind at (text_of item) → IsWritten items at text → IsWritten items (at + 1) more
  written_more items at item text more e is w =
      let next : at + 1 ≡ suc at = omega arith in
      let rest : List (List ℕ) = drop (suc at) (map text_of items) in
      (λ j. is j ++ listed (at + 1) (drop (next j) (map text_of items)))
      ∙ append_assoc text (behind at (text_of item)) (listed (at + 1) rest)
      ∙ (λ j. text ++ listed at (sym (dropped items at item e) j))
      ∙ w

  pub written_all : (items : List A) (at : ℕ) (text : List ℕ) → length items ≡ at → IsWritten items at text → text ≡ listed 0 (map text_of items)
  written_all items at text e w = sym (append-nil text) ∙ (λ j. text ++ listed at (sym (past items at e) j)) ∙ w

  -- one more at the end
  as_many : (items : List A) → length (map text_of items) ≡ length items
  as_many [] = refl
  as_many (x ∷ items) = ap suc (as_many items)

  pub written_last : (items : List A) (last : List ℕ) → listed 0 (map text_of items ++ last ∷ []) ≡ listed 0 (map text_of items) ++ behind (length items) last
  written_last items last =
      let same : 0 + length (map text_of items) ≡ length items = omega (arith, as_many items) in
      listed_last 0 (map text_of items) last ∙ ap (λ (n : ℕ). listed 0 (map text_of items) ++ behind n last) same

-- ---- items of a reply

pub joined_none : (items : List Item) → length items ≡ 0 → joined (map item_text items) ≡ codes "nothing"
joined_none [] e = refl
joined_none (x ∷ items) e = absurd (omega (arith, e))

pub joined_some : (items : List Item) → (length items ≡ 0 → ⊥) → joined (map item_text items) ≡ listed 0 (map item_text items)
joined_some [] e = absurd (e refl)
joined_some (x ∷ items) e = refl

pub joined_last : (items : List Item) (last : List ℕ) → joined (map item_text items ++ last ∷ []) ≡ listed 0 (map item_text items) ++ behind (length items) last
joined_last [] last = written_last item_text [] last
joined_last (x ∷ items) last = written_last item_text (x ∷ items) last
