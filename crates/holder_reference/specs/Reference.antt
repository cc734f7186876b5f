-- References of certificate holders and of certificate authorities (BSI TR-03110-3, certificate holder reference: a
-- country code, a mnemonic of the holder and a sequence number; which bytes a mnemonic has is this project's own).
use Rattle.std.specs.Prelude.{ℕ, ◌-◌, ◌==◌, List, length, take, drop, Bool, ◌&&◌, ◌||◌, Result, Ok}
use Rattle.std.specs.List.{list_all}
use Rattle.eac_base.specs.Bytes.{is_within}
use Rattle.eac_base.specs.Text.{is_digit}
use Rattle.eac_base.specs.Answers.{◌>>◌, unless}
use Rattle.holder_reference.specs.declared.refusal.RefRefusal.{RefRefusal}
use Rattle.holder_reference.specs.declared.refusal.RefRefusal.TheVariants.{Length, Country, Mnemonic, Sequence}

-- ---- bytes

-- A to Z
abbrev pub is_capital : ℕ → Bool
is_capital b = is_within 0x41 0x5a b

-- The printed bytes of Latin-1, without the space and the no-break space.
abbrev pub is_printed : ℕ → Bool
is_printed b = is_within 0x21 0x7e b || is_within 0xa1 0xff b

-- ---- the parts of a reference

-- The holder is all but the last five bytes.
abbrev pub holder_part : List ℕ → List ℕ
holder_part reference = take (length reference - 5) reference

-- The sequence is the last five.
abbrev pub sequence_part : List ℕ → List ℕ
sequence_part reference = drop (length reference - 5) reference

-- A holder begins with its country, two capital letters.
abbrev pub has_country : List ℕ → Bool
has_country holder = list_all is_capital (take 2 holder)

-- The mnemonic is what stands behind them.
abbrev pub has_mnemonic : List ℕ → Bool
has_mnemonic holder = list_all is_printed (drop 2 holder)

-- ---- the three sets of texts

abbrev pub is_holder : List ℕ → Bool
is_holder bytes = is_within 3 11 (length bytes) && has_country bytes && has_mnemonic bytes

-- Five digits or capital letters.
abbrev pub is_sequence : List ℕ → Bool
is_sequence bytes = (length bytes == 5) && list_all (λ b. is_digit b || is_capital b) bytes

abbrev pub is_reference : List ℕ → Bool
is_reference bytes = is_within 8 16 (length bytes) && is_holder (holder_part bytes) && is_sequence (sequence_part bytes)

-- ---- reading: the bytes, or the first condition that they break

abbrev pub read_reference : List ℕ → Result (List ℕ) RefRefusal
read_reference bytes =
    unless (is_within 8 16 (length bytes)) Length
    >> unless (has_country (holder_part bytes)) Country
    >> unless (has_mnemonic (holder_part bytes)) Mnemonic
    >> unless (is_sequence (sequence_part bytes)) Sequence
    >> Ok bytes

abbrev pub read_holder : List ℕ → Result (List ℕ) RefRefusal
read_holder bytes =
    unless (is_within 3 11 (length bytes)) Length
    >> unless (has_country bytes) Country
    >> unless (has_mnemonic bytes) Mnemonic
    >> Ok bytes
