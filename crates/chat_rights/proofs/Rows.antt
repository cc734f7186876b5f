-- Worked examples, computed.
use Rattle.std.specs.Prelude.{◌≡◌, codes, refl, Ok, Err, [], ◌∷◌, ◌++◌, List, ℕ}
use Rattle.chat_rights.specs.declared.Kind.TheVariants.{Inspection}
use Rattle.chat_rights.specs.declared.Role.TheVariants.{Cvca, Domestic}
use Rattle.chat_rights.specs.declared.TemplateRefusal.TheVariants.{Form, UnknownType, Width}
use Rattle.chat_rights.specs.Template.{read_template, template_text}
use Rattle.chat_rights.specs.Rights.{rights_text}

identifier : ℕ → List ℕ
identifier last = 0x06 ∷ 0x09 ∷ 0x04 ∷ 0x00 ∷ 0x7f ∷ 0x00 ∷ 0x07 ∷ 0x03 ∷ 0x01 ∷ 0x02 ∷ last ∷ []

authority : read_template (identifier 1 ++ 0x53 ∷ 0x01 ∷ 0xc3 ∷ []) ≡ Ok (record { kind = Inspection; role = Cvca; rights = 3 })
unfolding identifier
authority = refl

two_bytes : read_template (identifier 1 ++ 0x53 ∷ 0x02 ∷ 0xc3 ∷ 0x00 ∷ []) ≡ Err Width
unfolding identifier
two_bytes = refl

other_type : read_template (identifier 2 ++ 0x53 ∷ 0x01 ∷ 0xc3 ∷ []) ≡ Err UnknownType
unfolding identifier
other_type = refl

no_rights : read_template (identifier 1) ≡ Err Form
unfolding identifier
no_rights = refl

written : template_text (record { kind = Inspection; role = Domestic; rights = 3 }) ≡ identifier 1 ++ 0x53 ∷ 0x01 ∷ 0x83 ∷ []
unfolding identifier
written = refl

shown : rights_text Inspection 0x3f ≡ codes "3F"
shown = refl
