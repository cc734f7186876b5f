-- What the steps of the code give: members that are put one after another, and texts that are judged one after another.
use Rattle.std.specs.Prelude.{◌≡◌, ℕ, List, [], ◌∷◌, Option, Some, None, Ok, if◌then◌else◌, codes}
use Rattle.eac_base.specs.Bytes.{AreBytes, is_empty}
use Rattle.eac_base.specs.Answers.{◌>>=◌, some_or}
use Rattle.serde_json.specs.Data.{Data, number, string, array, unsigned, Items, no_items, item, Members, put}
use Rattle.serde_json.specs.Find.{as_str}
use Rattle.base64.specs.Engines.{standard}
use Rattle.base64.specs.GeneralPurpose.{encode_of}
use Rattle.eac_messages.specs.declared.refusal.Member.TheVariants as names
use Rattle.eac_messages.specs.declared.refusal.MessageRefusal.TheVariants as refusals
use Rattle.eac_messages.specs.declared.code.Code.{Code}
use Rattle.eac_messages.specs.declared.message.Message.{Message}
use Rattle.eac_messages.specs.declared.message.Message.TheVariants as messages
use Rattle.eac_messages.specs.Body.{Step}
use Rattle.eac_messages.specs.Base64.{base64_text, base64_texts, AreAllBytes, bytes_of}
use Rattle.eac_messages.specs.Code.{carries_certificates}

abbrev pub id_put : List ℕ → Members → Members
id_put id ms = if is_empty id then ms else put (codes "messageID") (string id) ms

-- The call's own member.
abbrev pub content_put : Message → Members → Members
content_put (messages.RequestCertificate id request) ms = put (codes "request") (base64_text request) ms
content_put (messages.SendCertificates id certificates) ms = put (codes "certificates") (array (base64_texts certificates)) ms
content_put (messages.GetCaCertificates id) ms = ms

abbrev pub rule_put : Option ℕ → Members → Members
rule_put None ms = ms
rule_put (Some rule) ms = put (codes "rule") (number (unsigned rule)) ms

abbrev pub certificates_put : Code → List (List ℕ) → Members → Members
certificates_put code list ms = if carries_certificates code then put (codes "certificates") (array (base64_texts list)) ms else ms

-- The text is the base64 of these bytes; the items are texts of these lists.
pub record IsSpelled (text bytes : List ℕ) : Type 0 where
  pub text_is : text ≡ encode_of standard bytes
  pub bytes_are : AreBytes bytes

pub record AreSpelled (items : Items) (lists : List (List ℕ)) : Type 0 where
  pub items_are : items ≡ base64_texts lists
  pub bytes_are : AreAllBytes lists

-- The bytes of items that are texts.
abbrev pub item_bytes : Data → Step (List ℕ)
item_bytes d = some_or (as_str d) (refusals.Member names.Certificates) >>= bytes_of names.Certificates

abbrev pub items_bytes : Items → Step (List (List ℕ))
items_bytes no_items = Ok []
items_bytes (item d ds) = item_bytes d >>= λ bytes. items_bytes ds >>= λ lists. Ok (bytes ∷ lists)
