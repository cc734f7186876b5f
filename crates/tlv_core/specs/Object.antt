-- Data objects: tag, length and content in the one spelling of the distinguished encoding rules
-- (BSI TR-03110-3, appendix D; ITU-T X.690, 8.1.2, 8.1.3 and 10.1). That a tag has at most two bytes and a content at
-- most 65,535 is this project's own.
use Rattle.std.specs.Prelude.{◌≡◌, ℕ, ◌+◌, ◌*◌, ◌/◌, ◌%◌, ◌<◌, List, [], ◌∷◌, ◌++◌, length, take, drop, Bool, false, ◌&&◌, not, nat_lt, ◌==◌, IsTrue, if◌then◌else◌, Option, Some, None, Result, Ok, Err}
use Rattle.std.specs.Option.{option_map_or}
use Rattle.eac_base.specs.Bytes.{is_within, is_empty}
use Rattle.eac_base.specs.Answers.{◌>>=◌}
use Rattle.tlv_core.specs.declared.TlvRefusal.{TlvRefusal}
use Rattle.tlv_core.specs.declared.TlvRefusal.TheVariants.{Truncated, BadTag, BadLength, LongLength}

-- ---- what an object is

-- A tag has one byte. Where the five low bits of that byte are all ones a second byte follows, from 1F to 7F. As a number
-- the first byte is the higher one.
abbrev pub has_second_byte : ℕ → Bool
has_second_byte first = first % 32 == 31

abbrev pub is_tag : ℕ → Bool
is_tag tag = if nat_lt tag 256 then not (has_second_byte tag)
    else nat_lt tag 65536 && has_second_byte (tag / 256) && is_within 0x1f 0x7f (tag % 256)

abbrev pub tag_bytes : ℕ → List ℕ
tag_bytes tag = if nat_lt tag 256 then tag ∷ [] else (tag / 256) ∷ (tag % 256) ∷ []

-- The length of n bytes, in three cases: the byte n up to 127, 81 and n up to 255, 82 and two bytes up to 65,535.
abbrev pub length_bytes : ℕ → List ℕ
length_bytes n = if nat_lt n 128 then n ∷ []
    else (if nat_lt n 256 then 0x81 ∷ n ∷ [] else 0x82 ∷ (n / 256) ∷ (n % 256) ∷ [])

abbrev pub object : ℕ → List ℕ → List ℕ
object tag content = tag_bytes tag ++ length_bytes (length content) ++ content

-- The bytes are the object of this tag and content, and nothing else. Its tag is one of the above.
pub record IsObject (tag : ℕ) (content bytes : List ℕ) : Type 0 where
  pub tag_known : IsTrue (is_tag tag)
  pub content_fits : length content < 65536
  pub spelling : bytes ≡ object tag content

-- That object stands at the front of the bytes, and the rest behind it.
pub record BeginsWith (tag : ℕ) (content rest bytes : List ℕ) : Type 0 where
  pub tag_known : IsTrue (is_tag tag)
  pub content_fits : length content < 65536
  pub spelling : bytes ≡ object tag content ++ rest

-- With each content of that size behind it, the head makes the object of this tag.
abbrev pub IsHead : ℕ → ℕ → List ℕ → Type 0
IsHead tag size head = (content : List ℕ) → length content ≡ size → IsObject tag content (head ++ content)

-- ---- reading: the first object and what follows it, or the first step that fails

-- Each step answers what it read and the bytes behind it.
abbrev pub second_tag_byte : ℕ → List ℕ → Result (ℕ × List ℕ) TlvRefusal
second_tag_byte first [] = Err Truncated
second_tag_byte first (second ∷ rest) =
    if is_within 0x1f 0x7f second then Ok (256 * first + second, rest) else Err BadTag

abbrev pub tag_at : List ℕ → Result (ℕ × List ℕ) TlvRefusal
tag_at [] = Err Truncated
tag_at (first ∷ rest) = if has_second_byte first then second_tag_byte first rest else Ok (first, rest)

-- The least length behind 81 is 80, and behind 82 it is 0100.
abbrev pub one_byte_length : List ℕ → Result (ℕ × List ℕ) TlvRefusal
one_byte_length [] = Err Truncated
one_byte_length (n ∷ rest) = if nat_lt n 0x80 then Err BadLength else Ok (n, rest)

abbrev pub two_byte_length : List ℕ → Result (ℕ × List ℕ) TlvRefusal
two_byte_length [] = Err Truncated
two_byte_length (high ∷ []) = Err Truncated
two_byte_length (high ∷ low ∷ rest) = if high == 0 then Err BadLength else Ok (256 * high + low, rest)

abbrev pub length_at : List ℕ → Result (ℕ × List ℕ) TlvRefusal
length_at [] = Err Truncated
length_at (first ∷ rest) =
    if nat_lt first 0x80 then Ok (first, rest)
    else (if first == 0x80 then Err BadLength
    else (if first == 0x81 then one_byte_length rest
    else (if first == 0x82 then two_byte_length rest else Err LongLength)))

-- An object that was read, and the bytes after it.
pub record First : Type 0 where
  pub tag : ℕ
  pub content : List ℕ
  pub rest : List ℕ

abbrev pub first_object : List ℕ → Result First TlvRefusal
first_object bytes = do
  tag ← tag_at bytes
  size ← length_at tag.1
  if nat_lt (length size.1) size.0 then Err Truncated
      else Ok (record { tag = tag.0; content = take size.0 size.1; rest = drop size.0 size.1 })

-- ---- the refusals by number

abbrev pub refusal_number : TlvRefusal → ℕ
refusal_number Truncated = 1
refusal_number BadTag = 2
refusal_number BadLength = 3
refusal_number LongLength = 4

-- ---- several objects in a row

-- Onward from an object that has this tag and isn't empty.
abbrev pub onward : ℕ → (List ℕ → Option (List ℕ)) → Result First TlvRefusal → Option (List ℕ)
onward tag others (Ok o) = if (o.tag == tag) && not (is_empty o.content) then others o.rest else None
onward tag others (Err e) = None

-- What follows objects with these tags in this order, none of them empty.
abbrev pub after_objects : List ℕ → List ℕ → Option (List ℕ)
after_objects [] bytes = Some bytes
after_objects (tag ∷ tags) bytes = onward tag (after_objects tags) (first_object bytes)

-- The bytes are such objects and nothing else.
abbrev pub are_objects : List ℕ → List ℕ → Bool
are_objects tags bytes = option_map_or is_empty (after_objects tags bytes) false
