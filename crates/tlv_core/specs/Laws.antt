-- What objects, reading and writing have to do with each other.
use Rattle.std.specs.Prelude.{◌≡◌, ℕ, ◌<◌, List, ◌++◌, [], length, IsTrue, Ok}
use Rattle.eac_base.specs.Bytes.{AreBytes}
use Rattle.tlv_core.specs.Object.{is_tag, object, IsObject, BeginsWith, First, first_object}

-- A tag and a content have one spelling.
abbrev pub OneSpelling : Type 0
OneSpelling = (tag : ℕ) (content one other : List ℕ) → IsObject tag content one → IsObject tag content other → one ≡ other

-- The bytes of an object are of one tag and one content.
abbrev pub OneObject : Type 0
OneObject = (s t : ℕ) (c d bytes : List ℕ) → IsObject s c bytes → IsObject t d bytes → (s ≡ t) × (c ≡ d)

-- No object is a proper prefix of another.
abbrev pub NoProperPrefix : Type 0
NoProperPrefix = (s t : ℕ) (c d bytes more : List ℕ) → IsObject s c bytes → IsObject t d (bytes ++ more) → more ≡ []

-- What was written is read, whatever follows it.
abbrev pub ReadAfterWrite : Type 0
ReadAfterWrite = (tag : ℕ) (content rest : List ℕ) → IsTrue (is_tag tag) → length content < 65536 →
    first_object (object tag content ++ rest) ≡ Ok (record { tag = tag; content = content; rest = rest })

-- What was read stands at the front, in the spelling that is written.
abbrev pub WriteAfterRead : Type 0
WriteAfterRead = (bytes : List ℕ) (o : First) → AreBytes bytes → first_object bytes ≡ Ok o →
    BeginsWith o.tag o.content o.rest bytes
