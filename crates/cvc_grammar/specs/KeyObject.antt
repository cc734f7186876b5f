-- The key that the content of a public key object says (BSI TR-03110-3, public key data objects).
use Rattle.std.specs.Prelude.{◌≡◌, ℕ, ◌-◌, List, [], length, take, ◌&&◌, ◌==◌, IsTrue, if◌then◌else◌, Option, Some, None, Result, Ok, Err, slice_index}
use Rattle.std.specs.Str.{bytes_eq}
use Rattle.tlv_core.specs.Object.{first_object, First, after_objects}
use Rattle.tlv_core.specs.declared.TlvRefusal.{TlvRefusal}
use Rattle.signature_provider.specs.declared.key.Algorithm.{Algorithm}
use Rattle.signature_provider.specs.declared.key.Key.{Key}
use Rattle.signature_provider.specs.Key.{is_key, is_elliptic, key_content, algorithm_identifier, domain_tags}

-- The content is this key's.
pub record IsKeyContent (k : Key) (content : List ℕ) : Type 0 where
  pub legal : IsTrue (is_key k)
  pub spelling : content ≡ key_content k

-- ---- reading: the one key whose content it is

-- The object of the point, and the cofactor behind it.
abbrev pub elliptic_after : Algorithm → List ℕ → Result First TlvRefusal → Option Key
elliptic_after a domain (Ok o) = if o.tag == 0x86
    then Some (record { algorithm = a; domain = domain; point = o.content; cofactor = o.rest }) else None
elliptic_after a domain (Err e) = None

-- The domain, where its objects stand at the front.
abbrev pub elliptic_with : Algorithm → List ℕ → Option (List ℕ) → Option Key
elliptic_with a values None = elliptic_after a [] (first_object values)
elliptic_with a values (Some rest) = elliptic_after a (take (length values - length rest) values) (first_object rest)

abbrev pub spelt_key : Algorithm → List ℕ → Option Key
spelt_key a values = if is_elliptic a then elliptic_with a values (after_objects domain_tags values)
    else Some (record { algorithm = a; domain = []; point = values; cofactor = [] })

abbrev pub if_key : Option Key → Option Key
if_key None = None
if_key (Some k) = if is_key k then Some k else None

abbrev pub spelt_algorithm : List ℕ → Algorithm
spelt_algorithm identifier = record { arc = slice_index identifier 8; last = slice_index identifier 9 }

abbrev pub key_after : Result First TlvRefusal → Option Key
key_after (Err e) = None
key_after (Ok o) = let a = spelt_algorithm o.content in
    if (o.tag == 0x06) && bytes_eq o.content (algorithm_identifier a) then if_key (spelt_key a o.rest) else None

abbrev pub read_key : List ℕ → Option Key
read_key content = key_after (first_object content)
