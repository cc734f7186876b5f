-- Which refusal bytes have: the first condition that they break, in the order of the variants.
use Rattle.std.specs.Prelude.{◌≡◌, ℕ, List, length, false, IsTrue}
use Rattle.eac_base.specs.Bytes.{is_within}
use Rattle.holder_reference.specs.declared.refusal.RefRefusal.{RefRefusal}
use Rattle.holder_reference.specs.declared.refusal.RefRefusal.TheVariants.{Length, Country, Mnemonic, Sequence}
use Rattle.holder_reference.specs.Reference.{holder_part, sequence_part, has_country, has_mnemonic, is_sequence}

-- as a reference
abbrev pub IsRefused : List ℕ → RefRefusal → Type 0
IsRefused bytes Length = is_within 8 16 (length bytes) ≡ false
IsRefused bytes Country = IsTrue (is_within 8 16 (length bytes)) × (has_country (holder_part bytes) ≡ false)
IsRefused bytes Mnemonic =
    IsTrue (is_within 8 16 (length bytes)) × IsTrue (has_country (holder_part bytes))
    × (has_mnemonic (holder_part bytes) ≡ false)
IsRefused bytes Sequence =
    IsTrue (is_within 8 16 (length bytes)) × IsTrue (has_country (holder_part bytes))
    × IsTrue (has_mnemonic (holder_part bytes)) × (is_sequence (sequence_part bytes) ≡ false)

-- as a holder
abbrev pub IsRefusedHolder : List ℕ → RefRefusal → Type 0
IsRefusedHolder bytes Length = is_within 3 11 (length bytes) ≡ false
IsRefusedHolder bytes Country = IsTrue (is_within 3 11 (length bytes)) × (has_country bytes ≡ false)
IsRefusedHolder bytes Mnemonic =
    IsTrue (is_within 3 11 (length bytes)) × IsTrue (has_country bytes) × (has_mnemonic bytes ≡ false)
IsRefusedHolder bytes Sequence = ⊥

abbrev pub refusal_number : RefRefusal → ℕ
refusal_number Length = 1
refusal_number Country = 2
refusal_number Mnemonic = 3
refusal_number Sequence = 4
