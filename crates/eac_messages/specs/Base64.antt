-- Bytes as texts: standard base64 with padding (RFC 4648, section 4).
use Rattle.std.specs.Prelude.{◌≡◌, ℕ, List, [], ◌∷◌, Ok, Some, codes}
use Rattle.std.specs.Result.{result_ok}
use Rattle.eac_base.specs.Bytes.{AreBytes}
use Rattle.eac_base.specs.Answers.{◌>>=◌, some_or}
use Rattle.std.specs.List.{AllByRecursion}
use Rattle.serde_json.specs.Data.{Data, string, array, Items, no_items, item}
use Rattle.serde_json.specs.Find.{get}
use Rattle.base64.specs.Engines.{standard}
use Rattle.base64.specs.GeneralPurpose.{encode_of, decode_of}
use Rattle.eac_messages.specs.declared.refusal.Member.{Member}
use Rattle.eac_messages.specs.declared.refusal.Member.TheVariants as names
use Rattle.eac_messages.specs.declared.refusal.MessageRefusal.TheVariants as refusals
use Rattle.eac_messages.specs.Body.{Step, required, as_texts}

-- ---- the text

abbrev pub base64_text : List ℕ → Data
base64_text bytes = string (encode_of standard bytes)

abbrev pub base64_texts : List (List ℕ) → Items
base64_texts [] = no_items
base64_texts (bytes ∷ lists) = item (base64_text bytes) (base64_texts lists)

abbrev pub AreAllBytes : List (List ℕ) → Type 0
AreAllBytes lists = AllByRecursion AreBytes lists

-- The member of an object that has certificates.
abbrev pub HasCertificates : List (List ℕ) → Data → Type 0
HasCertificates lists d = (get (codes "certificates") d ≡ Some (array (base64_texts lists))) × AreAllBytes lists

-- ---- reading: the bytes of a text, and those of all texts or the refusal of the first that isn't base64

abbrev pub bytes_of : Member → List ℕ → Step (List ℕ)
bytes_of which text = some_or (result_ok (decode_of standard text)) (refusals.Base64 which)

abbrev pub all_bytes_of : Member → List (List ℕ) → Step (List (List ℕ))
all_bytes_of which [] = Ok []
all_bytes_of which (text ∷ texts) = bytes_of which text >>= λ bytes. all_bytes_of which texts >>= λ lists. Ok (bytes ∷ lists)

-- All of the texts are there before any of them is judged.
abbrev pub certificates_in : Data → Step (List (List ℕ))
certificates_in d = do
  texts ← required (codes "certificates") as_texts names.Certificates d
  all_bytes_of names.Certificates texts
