-- Fields that are pushed one after another.
use Rattle.std.proofs.Common.{◌≡◌, ℕ, List, [], ◌++◌, Ok, Err, sym, ap, ◌∙◌, append-nil, append_assoc}
use Rattle.std.specs.Prelude.{OnOk}
use Rattle.std.specs.declared.result.Result.{Result}

-- two fields
pub two_pushed : {U E : Type 0} (out : Result U E) (o m new a b : List ℕ) → m ≡ o ++ a → OnOk out (new ≡ m ++ b) → OnOk out (new ≡ o ++ (a ++ (b ++ [])))
two_pushed (Ok u) o m new a b p q = q ∙ ap (λ (l : List ℕ). l ++ b) p ∙ append_assoc o a b ∙ ap (λ (l : List ℕ). o ++ (a ++ l)) (sym (append-nil b))
two_pushed (Err e) o m new a b p q = tt

regrouped : (a b c d e : List ℕ) → (((a ++ b) ++ c) ++ d) ++ e ≡ a ++ (b ++ (c ++ (d ++ (e ++ []))))
regrouped a b c d e = append_assoc ((a ++ b) ++ c) d e ∙ append_assoc (a ++ b) c (d ++ e) ∙ append_assoc a b (c ++ (d ++ e)) ∙ ap (λ (l : List ℕ). a ++ (b ++ (c ++ (d ++ l)))) (sym (append-nil e))

-- five fields
pub five_pushed : {U E : Type 0} (out : Result U E) (o m n p q new a b c d e : List ℕ) → m ≡ o ++ a → n ≡ m ++ b → p ≡ n ++ c → q ≡ p ++ d → OnOk out (new ≡ q ++ e) → OnOk out (new ≡ o ++ (a ++ (b ++ (c ++ (d ++ (e ++ []))))))
five_pushed (Ok u) o m n p q new a b c d e am bn cp dq last =
    let two : n ≡ o ++ (a ++ b) = bn ∙ ap (λ (l : List ℕ). l ++ b) am ∙ append_assoc o a b in
    let three : p ≡ o ++ ((a ++ b) ++ c) = cp ∙ ap (λ (l : List ℕ). l ++ c) two ∙ append_assoc o (a ++ b) c in
    let four : q ≡ o ++ (((a ++ b) ++ c) ++ d) = dq ∙ ap (λ (l : List ℕ). l ++ d) three ∙ append_assoc o ((a ++ b) ++ c) d in
    last ∙ ap (λ (l : List ℕ). l ++ e) four ∙ append_assoc o (((a ++ b) ++ c) ++ d) e ∙ ap (λ (l : List ℕ). o ++ l) (regrouped a b c d e)
five_pushed (Err x) o m n p q new a b c d e am bn cp dq last = tt
