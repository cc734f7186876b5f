-- What holds of each legal text: parts and whole, reading again, numbers and their digits.
use Rattle.std.specs.Prelude.{◌≡◌, ℕ, ◌<◌, List, ◌++◌, Ok, IsTrue}
use Rattle.holder_reference.specs.Reference.{is_holder, is_sequence, is_reference, holder_part, sequence_part, read_holder, read_reference}
use Rattle.holder_reference.specs.Sequence.{five_digits, is_decimal_sequence, number_said}

-- The parts of a reference are a holder and a sequence, and joined they are the reference.
pub record HasParts (reference : List ℕ) : Type 0 where
  pub holder : IsTrue (is_holder (holder_part reference))
  pub sequence : IsTrue (is_sequence (sequence_part reference))
  pub joined : holder_part reference ++ sequence_part reference ≡ reference

abbrev pub EachHasItsParts : Type 0
EachHasItsParts = (reference : List ℕ) → IsTrue (is_reference reference) → HasParts reference

-- A holder and a sequence, joined, are a reference that has these parts.
pub record IsJoined (holder sequence : List ℕ) : Type 0 where
  pub reference : IsTrue (is_reference (holder ++ sequence))
  pub holder_again : holder_part (holder ++ sequence) ≡ holder
  pub sequence_again : sequence_part (holder ++ sequence) ≡ sequence

abbrev pub EachIsJoined : Type 0
EachIsJoined = (holder sequence : List ℕ) → IsTrue (is_holder holder) → IsTrue (is_sequence sequence) → IsJoined holder sequence

-- What is legal is read, and as itself.
abbrev pub ReferencesAreRead : Type 0
ReferencesAreRead = (reference : List ℕ) → IsTrue (is_reference reference) → read_reference reference ≡ Ok reference

abbrev pub HoldersAreRead : Type 0
HoldersAreRead = (holder : List ℕ) → IsTrue (is_holder holder) → read_holder holder ≡ Ok holder

-- A number has one decimal sequence, and a decimal sequence one number.
abbrev pub NumbersAreSaid : Type 0
NumbersAreSaid = (n : ℕ) → n < 100000 → IsTrue (is_decimal_sequence (five_digits n)) × (number_said (five_digits n) ≡ n)

abbrev pub DecimalsAreNumbers : Type 0
DecimalsAreNumbers =
    (sequence : List ℕ) → IsTrue (is_decimal_sequence sequence)
    → (number_said sequence < 100000) × (five_digits (number_said sequence) ≡ sequence)
