-- The object of a body, by its text and its value.
use Rattle.std.proofs.Common.{◌≡◌, ℕ, List, Bool, true, false, Some, None, is_some, Ok, Err, refl}
use Rattle.std.specs.Str.{is_utf8, IsUtf8}
use Rattle.std.proofs.lemmas.Str.{is_utf8-from_IsUtf8, IsUtf8-from_is_utf8}
use Rattle.eac_base.specs.Answers.{◌>>=◌, ◌>>◌, unless, some_or}
use Rattle.serde_json.specs.Data.{Data}
use Rattle.serde_json.specs.Read.{read}
use Rattle.serde_json.specs.Find.{as_object}
use Rattle.eac_messages.specs.declared.refusal.MessageRefusal.TheVariants as refusals
use Rattle.eac_messages.specs.Body.{object_in}

pub object_read : (body : List ℕ) (d : Data) → IsUtf8 body → read body ≡ Some d → is_some (as_object d) ≡ true → object_in body ≡ Ok d
object_read body d text value object = rw (is_utf8-from_IsUtf8 body text, value, object) refl

not_read : (body : List ℕ) (b : Bool) → is_utf8 body ≡ b → (IsUtf8 body → read body ≡ None) → (unless b refusals.NotJson >> (some_or (read body) refusals.NotJson >>= λ d. unless (is_some (as_object d)) refusals.NotJson >> Ok d)) ≡ Err refusals.NotJson
not_read body true text none = rw (none (IsUtf8-from_is_utf8 body text)) refl
not_read body false text none = refl

pub nothing_read : (body : List ℕ) → (IsUtf8 body → read body ≡ None) → object_in body ≡ Err refusals.NotJson
nothing_read body none = not_read body (is_utf8 body) refl none
