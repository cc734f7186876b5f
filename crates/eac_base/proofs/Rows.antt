use Rattle.std.specs.Prelude.{◌≡◌, [], ◌∷◌, codes, refl, Some, None}
use Rattle.eac_base.specs.Text.{numbered_lines, words, decimal_of, hex_bytes}
use Rattle.eac_base.specs.Bytes.{big_endian, number_of}

row_lines : numbered_lines (codes "day 240101\n\nask DEDVBUND00001 0102\r\n# a comment that is long enough\nx") ≡ (1, codes "day 240101") ∷ (3, codes "ask DEDVBUND00001 0102") ∷ (5, codes "x") ∷ []
row_lines = refl

row_words : words (codes "ask DEDVBUND00001 0102") ≡ Some (codes "ask" ∷ codes "DEDVBUND00001" ∷ codes "0102" ∷ [])
row_words = refl

two_spaces : words (codes "ask  DEDVBUND00001") ≡ None
two_spaces = refl

space_at_end : words (codes "ask ") ≡ None
space_at_end = refl

numbers : decimal_of (codes "1096") ≡ Some 1096
numbers = refl

leading_zero : decimal_of (codes "01") ≡ None
leading_zero = refl

hexadecimal : hex_bytes (codes "00aBff") ≡ Some (0 ∷ 0xab ∷ 255 ∷ [])
hexadecimal = refl

row_bytes : number_of (big_endian 8 12345678901) ≡ 12345678901
row_bytes = refl
