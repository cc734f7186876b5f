-- What templates, reading and writing have to do with each other.
use Rattle.std.specs.Prelude.{◌≡◌, ◌↔◌, ℕ, ◌<◌, List, IsTrue, Ok}
use Rattle.eac_base.specs.Bytes.{AreBytes}
use Rattle.chat_rights.specs.declared.Template.{Template}
use Rattle.chat_rights.specs.declared.Kind.{Kind}
use Rattle.chat_rights.specs.Kinds.{rights_bits, rights_fit}
use Rattle.chat_rights.specs.Rights.{Grants}
use Rattle.chat_rights.specs.Template.{template_text, IsTemplate, read_template}

-- What was written is read.
abbrev pub ReadAfterWrite : Type 0
ReadAfterWrite = (t : Template) → IsTrue (rights_fit t.kind t.rights) → read_template (template_text t) ≡ Ok t

-- What was read is the template's one content.
abbrev pub WriteAfterRead : Type 0
WriteAfterRead = (t : Template) (content : List ℕ) → AreBytes content → read_template content ≡ Ok t
    → IsTemplate t content

-- Rights are the set of their type's bits that stand in them.
abbrev pub SameBitsSameRights : Type 0
SameBitsSameRights = (kind : Kind) (left right : ℕ) → IsTrue (rights_fit kind left) → IsTrue (rights_fit kind right)
    → ((bit : ℕ) → bit < rights_bits kind → Grants left bit ↔ Grants right bit) → left ≡ right
