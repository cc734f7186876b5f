-- Worked examples, computed.
use Rattle.std.specs.Prelude.{◌≡◌, [], ◌∷◌, ◌++◌, codes, refl, Ok, Err, replicate}
use Rattle.tlv_core.specs.declared.TlvRefusal.TheVariants.{Truncated, BadTag, BadLength, LongLength}
use Rattle.tlv_core.specs.Object.{object, first_object}

long_form_of_a_short_length : first_object (0x42 ∷ 0x82 ∷ 0x00 ∷ 0x0b ∷ codes "DECVCA00001") ≡ Err BadLength
long_form_of_a_short_length = refl

one_byte_form_of_a_short_length : first_object (0x42 ∷ 0x81 ∷ 0x0b ∷ codes "DECVCA00001") ≡ Err BadLength
one_byte_form_of_a_short_length = refl

one_byte_is_missing : first_object (0x42 ∷ 0x0b ∷ codes "DECVCA0000") ≡ Err Truncated
one_byte_is_missing = refl

three_length_bytes : first_object (0x42 ∷ 0x83 ∷ 0x00 ∷ 0x01 ∷ 0x00 ∷ []) ≡ Err LongLength
three_length_bytes = refl

second_tag_byte_too_small : first_object (0x5f ∷ 0x1e ∷ 0x00 ∷ []) ≡ Err BadTag
second_tag_byte_too_small = refl

read_again : first_object (object 0x7f4e (replicate 300 7) ++ 1 ∷ 2 ∷ []) ≡ Ok (record { tag = 0x7f4e; content = replicate 300 7; rest = 1 ∷ 2 ∷ [] })
read_again = refl
