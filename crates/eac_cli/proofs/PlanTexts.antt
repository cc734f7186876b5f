-- Renewals that are pushed one after another.
use Rattle.std.proofs.Common.{◌≡◌, ℕ, List, [], ◌∷◌, ◌++◌, Ok, Err, sym, ap, ◌∙◌, append-nil, append_assoc}
use Rattle.std.specs.Prelude.{OnOk, flat_map}
use Rattle.std.specs.declared.result.Result.{Result}

-- four pieces
pub four_pushed : {U E : Type 0} (out : Result U E) (o m n p new a b c d : List ℕ) → m ≡ o ++ a → n ≡ m ++ b → p ≡ n ++ c → OnOk out (new ≡ p ++ d) → OnOk out (new ≡ o ++ (((a ++ b) ++ c) ++ d))
four_pushed (Ok u) o m n p new a b c d am bn cp last =
    let two : n ≡ o ++ (a ++ b) = bn ∙ ap (λ (l : List ℕ). l ++ b) am ∙ append_assoc o a b in
    let three : p ≡ o ++ ((a ++ b) ++ c) = cp ∙ ap (λ (l : List ℕ). l ++ c) two ∙ append_assoc o (a ++ b) c in
    last ∙ ap (λ (l : List ℕ). l ++ d) three ∙ append_assoc o ((a ++ b) ++ c) d
four_pushed (Err x) o m n p new a b c d am bn cp last = tt

module _ {A : Type 0} (line : A → List ℕ) where
  lines_more : (items : List A) (item : A) → flat_map line (items ++ item ∷ []) ≡ flat_map line items ++ line item
  lines_more [] item = append-nil (line item)
  lines_more (x ∷ items) item = ap (λ (l : List ℕ). line x ++ l) (lines_more items item) ∙ sym (append_assoc (line x) (flat_map line items) (line item))

  -- one line more
  pub line_pushed : (items more : List A) (item : A) (old now new : List ℕ) → more ≡ items ++ item ∷ [] → now ≡ old ++ flat_map line items → new ≡ now ++ line item → new ≡ old ++ flat_map line more
  line_pushed items more item old now new grown so_far pushed =
      pushed ∙ ap (λ (l : List ℕ). l ++ line item) so_far ∙ append_assoc old (flat_map line items) (line item)
      ∙ ap (λ (l : List ℕ). old ++ l) (sym (lines_more items item) ∙ ap (flat_map line) (sym grown))
