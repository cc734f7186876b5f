-- Just two hexadecimal digits.
use Rattle.std.proofs.Common.{◌≡◌, ℕ, false, List, [], ◌∷◌, length, None, Some, refl, sym, ap, ◌∙◌}
use Rattle.std.specs.declared.option.Option.{Option}
use Rattle.std.specs.Prelude.{◌==◌}
use Rattle.eac_base.specs.Answers.{◌gives◌}
use Rattle.eac_base.specs.Text.{hex_value, byte_of, hex_bytes}
use Rattle.plain_text.specs.Digits.{only_byte, byte_word}

more_than_a_byte : (a b : Option ℕ) (c d : ℕ) (rest : List ℕ) → (byte_of a b (hex_bytes (c ∷ d ∷ rest)) gives only_byte) ≡ None
more_than_a_byte a b c d rest = by_digits a b (hex_value c) (hex_value d) (hex_bytes rest)
  where
    by_digits : (a b c d : Option ℕ) (rest : Option (List ℕ)) → (byte_of a b (byte_of c d rest) gives only_byte) ≡ None
    by_digits None b c d rest = refl
    by_digits (Some a) None c d rest = refl
    by_digits (Some a) (Some b) None d rest = refl
    by_digits (Some a) (Some b) (Some c) None rest = refl
    by_digits (Some a) (Some b) (Some c) (Some d) None = refl
    by_digits (Some a) (Some b) (Some c) (Some d) (Some rest) = refl

odd_digits : (a b : Option ℕ) → (byte_of a b None gives only_byte) ≡ None
odd_digits None b = refl
odd_digits (Some a) None = refl
odd_digits (Some a) (Some b) = refl

-- More than two digits say more than a byte.
pub no_byte : (w : List ℕ) (high low : ℕ) (rest : List ℕ) → w ≡ high ∷ low ∷ rest → false ≡ (length rest == 0) → None ≡ byte_word w
no_byte w high low [] is some = cc
no_byte w high low (c ∷ []) is some = sym (ap byte_word is ∙ odd_digits (hex_value high) (hex_value low))
no_byte w high low (c ∷ d ∷ rest) is some = sym (ap byte_word is ∙ more_than_a_byte (hex_value high) (hex_value low) c d rest)
