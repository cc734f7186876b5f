-- The JSON object that a body is the text of, and its members (RFC 8259, read as serde_json reads it: UTF-8, at most 127
-- arrays and objects in one another, each number within a double, the last value of a name that comes twice).
use Rattle.std.specs.Prelude.{◌≡◌, ℕ, ◌≤◌, nat_le, List, [], ◌∷◌, length, Option, Some, None, is_some, Result, Ok, if◌then◌else◌, codes}
use Rattle.std.specs.Str.{is_utf8}
use Rattle.eac_base.specs.Bytes.{is_empty}
use Rattle.eac_base.specs.Answers.{◌>>=◌, ◌>>◌, unless, some_or, ◌gives◌}
use Rattle.serde_json.specs.Data.{Data, string, Items, no_items, item, Members, member}
use Rattle.serde_json.specs.Read.{read}
use Rattle.serde_json.specs.Find.{get, as_str, as_array, as_object}
use Rattle.eac_messages.specs.declared.refusal.Member.{Member}
use Rattle.eac_messages.specs.declared.refusal.Member.TheVariants as names
use Rattle.eac_messages.specs.declared.refusal.MessageRefusal.{MessageRefusal}
use Rattle.eac_messages.specs.declared.refusal.MessageRefusal.TheVariants as refusals

-- What a step of reading gives, or its refusal.
abbrev pub Step : Type 0 → Type 0
Step A = Result A MessageRefusal

-- Want of memory says nothing of a body.
abbrev pub refused_message : MessageRefusal → Option MessageRefusal
refused_message refusals.NotJson = Some refusals.NotJson
refused_message (refusals.Member which) = Some (refusals.Member which)
refused_message (refusals.Base64 which) = Some (refusals.Base64 which)
refused_message refusals.NoMemory = None

-- The object that the whole body is the text of.
abbrev pub object_in : List ℕ → Step Data
object_in body = do
  unless (is_utf8 body) refusals.NotJson
  d ← some_or (read body) refusals.NotJson
  unless (is_some (as_object d)) refusals.NotJson
  Ok d

-- ---- members

-- A member that has to be there, of this kind.
abbrev pub required : {A : Type 0} → List ℕ → (Data → Option A) → Member → Data → Step A
required name kind which d = some_or (get name d gives kind) (refusals.Member which)

-- A member that may be left out, and stands for `absent` then.
abbrev pub of_kind_or : {A : Type 0} → Option Data → (Data → Option A) → A → Option A
of_kind_or None kind absent = Some absent
of_kind_or (Some d) kind absent = kind d

abbrev pub optional : {A : Type 0} → List ℕ → (Data → Option A) → A → Member → Data → Step A
optional name kind absent which d = some_or (of_kind_or (get name d) kind absent) (refusals.Member which)

-- An array of nothing but texts.
abbrev pub texts_of : Items → Option (List (List ℕ))
texts_of no_items = Some []
texts_of (item d ds) = as_str d gives λ text. texts_of ds gives λ texts. Some (text ∷ texts)

abbrev pub as_texts : Data → Option (List (List ℕ))
as_texts d = as_array d gives texts_of

-- ---- the member messageID: a text of at most 64 bytes, and empty where it is left out

abbrev pub longest_id : ℕ
longest_id = 64

abbrev pub id_of : Data → Option (List ℕ)
id_of d = as_str d gives λ id. if nat_le (length id) longest_id then Some id else None

abbrev pub id_in : Data → Step (List ℕ)
id_in d = optional (codes "messageID") id_of [] names.MessageId d

-- The identifier, by what stands there.
abbrev pub IsIdOf : List ℕ → Option Data → Type 0
IsIdOf id None = id ≡ []
IsIdOf id (Some d) = (d ≡ string id) × (length id ≤ longest_id)

-- An empty one isn't written.
abbrev pub with_id : List ℕ → Members → Members
with_id id ms = if is_empty id then ms else member (codes "messageID") (string id) ms
