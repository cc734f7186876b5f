-- The bytes of hexadecimal digits, two by two.
use Rattle.std.proofs.Common.{◌≡◌, ℕ, List, [], ◌∷◌, ◌++◌, Some, None, refl, sym, ap, ◌∙◌, append_assoc}
use Rattle.std.specs.declared.option.Option.{Option}
use Rattle.std.specs.Option.{option_map}
use Rattle.eac_base.specs.Text.{hex_bytes, hex_value, byte_of}

none_left : (high low : Option ℕ) → byte_of high low None ≡ None
none_left None low = refl
none_left (Some high) None = refl
none_left (Some high) (Some low) = refl

pair_more : (bytes : List ℕ) (byte : ℕ) (high low : Option ℕ) (rest : Option (List ℕ)) → ((o : List ℕ) → byte_of high low (Some o) ≡ Some (byte ∷ o)) → option_map (λ x. bytes ++ x) (byte_of high low rest) ≡ option_map (λ x. (bytes ++ byte ∷ []) ++ x) rest
pair_more bytes byte high low None one = ap (option_map (λ x. bytes ++ x)) (none_left high low)
pair_more bytes byte high low (Some rest) one = ap (option_map (λ x. bytes ++ x)) (one rest) ∙ ap Some (sym (append_assoc bytes (byte ∷ []) rest))

-- One byte more is read.
pub hex_more : (all : Option (List ℕ)) (bytes bytes' rest after : List ℕ) (high low byte : ℕ) → all ≡ option_map (λ x. bytes ++ x) (hex_bytes rest) → rest ≡ high ∷ low ∷ after → ((o : List ℕ) → byte_of (hex_value high) (hex_value low) (Some o) ≡ Some (byte ∷ o)) → bytes' ≡ bytes ++ byte ∷ [] → all ≡ option_map (λ x. bytes' ++ x) (hex_bytes after)
hex_more all bytes bytes' rest after high low byte so two one e =
    so
    ∙ ap (λ l. option_map (λ x. bytes ++ x) (hex_bytes l)) two
    ∙ pair_more bytes byte (hex_value high) (hex_value low) (hex_bytes after) one
    ∙ ap (λ (l : List ℕ). option_map (λ x. l ++ x) (hex_bytes after)) (sym e)
