-- Worked examples, computed by the definitions alone.
use Rattle.std.specs.Prelude.{◌≡◌, codes, refl, Ok, Err, Some, None}
use Rattle.holder_reference.specs.declared.refusal.RefRefusal.TheVariants.{Length, Country, Mnemonic, Sequence}
use Rattle.holder_reference.specs.Reference.{holder_part, sequence_part, read_holder, read_reference}
use Rattle.holder_reference.specs.Sequence.{five_digits, next_sequence}

holder_there : holder_part (codes "DEDVBUND00001") ≡ codes "DEDVBUND"
holder_there = refl

sequence_there : sequence_part (codes "DEDVBUND00001") ≡ codes "00001"
sequence_there = refl

sixteen_bytes : read_reference (codes "DEABCDEFGHI00001") ≡ Ok (codes "DEABCDEFGHI00001")
sixteen_bytes = refl

seventeen_bytes : read_reference (codes "DEABCDEFGHIJ00001") ≡ Err Length
seventeen_bytes = refl

small_country : read_reference (codes "DeDV BUND0000a") ≡ Err Country
small_country = refl

space_in_the_mnemonic : read_reference (codes "DEDV BUND0000a") ≡ Err Mnemonic
space_in_the_mnemonic = refl

small_letter_in_the_sequence : read_reference (codes "DEDVBUND0000a") ≡ Err Sequence
small_letter_in_the_sequence = refl

sequence_with_letters : read_reference (codes "DEDVBUNDFR001") ≡ Ok (codes "DEDVBUNDFR001")
sequence_with_letters = refl

no_mnemonic : read_holder (codes "DE") ≡ Err Length
no_mnemonic = refl

first : five_digits 1 ≡ codes "00001"
first = refl

after_9 : next_sequence (codes "00009") ≡ Some (codes "00010")
after_9 = refl

after_99999 : next_sequence (codes "99999") ≡ None
after_99999 = refl

after_letters : next_sequence (codes "FR001") ≡ None
after_letters = refl
