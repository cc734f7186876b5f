-- Texts one behind the other.
use Rattle.std.proofs.Common.{◌≡◌, ℕ, List, [], ◌++◌, append_assoc, append-nil, sym, ap, ◌∙◌}

pub four : (a b c d r : List ℕ) → (a ++ (b ++ (c ++ d))) ++ r ≡ a ++ (b ++ (c ++ (d ++ r)))
four a b c d r = simp append_assoc

pub at_end : (a b : List ℕ) → a ≡ b → a ≡ b ++ []
at_end a b e = e ∙ sym (append-nil b)

pub four_in_row : (bytes a r1 b r2 c r3 d r4 : List ℕ) → bytes ≡ a ++ r1 → r1 ≡ b ++ r2 → r2 ≡ c ++ r3 → r3 ≡ d ++ r4 → bytes ≡ (a ++ (b ++ (c ++ d))) ++ r4
four_in_row bytes a r1 b r2 c r3 d r4 e1 e2 e3 e4 =
    e1 ∙ ap (λ (x : List ℕ). a ++ x) (e2 ∙ ap (λ (x : List ℕ). b ++ x) (e3 ∙ ap (λ (x : List ℕ). c ++ x) e4)) ∙ sym (four a b c d r4)

pub five_in_row : (bytes a r1 b r2 c r3 d r4 e : List ℕ) → bytes ≡ a ++ r1 → r1 ≡ b ++ r2 → r2 ≡ c ++ r3 → r3 ≡ d ++ r4 → r4 ≡ e → bytes ≡ a ++ (b ++ (c ++ (d ++ e)))
five_in_row bytes a r1 b r2 c r3 d r4 e e1 e2 e3 e4 e5 =
    e1 ∙ ap (λ (x : List ℕ). a ++ x) (e2 ∙ ap (λ (x : List ℕ). b ++ x) (e3 ∙ ap (λ (x : List ℕ). c ++ x) (e4 ∙ ap (λ (x : List ℕ). d ++ x) e5)))
