-- Certificate holder authorization templates: the identifier of a type of terminal, the role and the rights
-- (BSI TR-03110-3, appendix C).
use Rattle.std.specs.Prelude.{◌≡◌, ℕ, ◌+◌, ◌*◌, ◌/◌, ◌%◌, List, [], ◌∷◌, ◌++◌, length, ◌==◌, if◌then◌else◌, IsTrue, Result, Ok, slice_index}
use Rattle.std.specs.Str.{bytes_eq}
use Rattle.eac_base.specs.Bytes.{is_empty}
use Rattle.eac_base.specs.Answers.{◌>>=◌, ◌>>◌, unless, refused_as}
use Rattle.tlv_core.specs.Object.{object, first_object, First}
use Rattle.chat_rights.specs.Kinds.{identifier_of, width_of, rights_fit}
use Rattle.chat_rights.specs.declared.Kind.TheVariants.{Inspection}
use Rattle.chat_rights.specs.declared.Role.{Role}
use Rattle.chat_rights.specs.declared.Role.TheVariants.{Cvca, Domestic, Foreign, Terminal}
use Rattle.chat_rights.specs.declared.Template.{Template}
use Rattle.chat_rights.specs.declared.TemplateRefusal.{TemplateRefusal}
use Rattle.chat_rights.specs.declared.TemplateRefusal.TheVariants.{Form, UnknownType, Width}

-- ---- what a template's content is

abbrev pub role_number : Role → ℕ
role_number Terminal = 0
role_number Foreign = 1
role_number Domestic = 2
role_number Cvca = 3

-- The role in the two highest bits, the rights below.
abbrev pub template_byte : Template → ℕ
template_byte t = 64 * role_number t.role + t.rights

abbrev pub template_text : Template → List ℕ
template_text t = object 0x06 (identifier_of t.kind) ++ object 0x53 (template_byte t ∷ [])

-- The content is that of this template.
pub record IsTemplate (t : Template) (content : List ℕ) : Type 0 where
  pub fit : IsTrue (rights_fit t.kind t.rights)
  pub spelling : content ≡ template_text t

-- ---- reading: the template, or the first test that fails

abbrev pub role_of : ℕ → Role
role_of n = if n == 0 then Terminal else (if n == 1 then Foreign else (if n == 2 then Domestic else Cvca))

abbrev pub template_of_byte : ℕ → Template
template_of_byte b = record { kind = Inspection; role = role_of (b / 64); rights = b % 64 }

-- The content of the first object, which has this tag, and what follows.
abbrev pub part_with : ℕ → List ℕ → Result First TemplateRefusal
part_with tag bytes = do
  o ← refused_as (λ e. Form) (first_object bytes)
  unless (o.tag == tag) Form
  Ok o

abbrev pub read_template : List ℕ → Result Template TemplateRefusal
read_template content = do
  identifier ← part_with 0x06 content
  access ← part_with 0x53 identifier.rest
  unless (is_empty access.rest) Form
  unless (bytes_eq identifier.content (identifier_of Inspection)) UnknownType
  unless (length access.content == width_of Inspection) Width
  Ok (template_of_byte (slice_index access.content 0))

-- ---- the refusals by number

abbrev pub refusal_number : TemplateRefusal → ℕ
refusal_number Form = 1
refusal_number UnknownType = 2
refusal_number Width = 3
