-- What `show` prints of an input (this project's own): the fields of the certificate that it is, or why it is none.
use Rattle.std.specs.Prelude.{ℕ, List, [], ◌∷◌, ◌++◌, length, Option, Some, None, Result, Ok, Err, codes, decimal}
use Rattle.cv_dates.specs.Calendar.{day_text}
use Rattle.chat_rights.specs.Rights.{rights_text}
use Rattle.chat_rights.specs.declared.Role.{Role}
use Rattle.chat_rights.specs.declared.Role.TheVariants.{Cvca, Domestic, Foreign, Terminal}
use Rattle.cvc_grammar.specs.declared.certificate.Cert.{Cert}
use Rattle.cvc_grammar.specs.declared.certificate.CertBody.{CertBody}
use Rattle.cvc_grammar.specs.declared.refusal.CvcRefusal.{CvcRefusal}
use Rattle.cvc_grammar.specs.declared.refusal.CvcRefusal.TheVariants as refusals
use Rattle.cvc_grammar.specs.ReadingOrder.{read_cert, refusal_number}
use Rattle.signature_provider.specs.declared.key.Algorithm.{Algorithm}

-- ---- fields

-- a name and a value
abbrev pub Field : Type 0
Field = List ℕ × List ℕ

-- a line of its own: the name, a space, the value, and a line feed
abbrev pub field_line : Field → List ℕ
field_line field = field.0 ++ 32 ∷ field.1 ++ 10 ∷ []

abbrev pub fields_text : List Field → List ℕ
fields_text [] = []
fields_text (field ∷ fields) = field_line field ++ fields_text fields

-- ---- a certificate

abbrev pub role_word : Role → List ℕ
role_word Cvca = codes "cvca"
role_word Domestic = codes "domestic"
role_word Foreign = codes "foreign"
role_word Terminal = codes "terminal"

-- arc, a dot, last
abbrev pub algorithm_text : Algorithm → List ℕ
algorithm_text algorithm = decimal algorithm.arc ++ 46 ∷ decimal algorithm.last

abbrev pub size_or_none : Option (List ℕ) → List ℕ
size_or_none None = codes "none"
size_or_none (Some bytes) = decimal (length bytes)

-- who certifies whom, as what, with which rights
abbrev pub names_of : CertBody → List Field
names_of b =
    (codes "authority", b.authority) ∷ (codes "holder", b.holder) ∷ (codes "role", role_word b.template.role)
    ∷ (codes "rights", rights_text b.template.kind b.template.rights) ∷ []

-- for how long
abbrev pub dates_of : CertBody → List Field
dates_of b = (codes "from", day_text b.from) ∷ (codes "until", day_text b.until) ∷ []

-- which key, with the numbers of bytes
abbrev pub key_of : Cert → List Field
key_of c =
    (codes "algorithm", algorithm_text c.body.key.algorithm) ∷ (codes "domain", decimal (length c.body.key.domain))
    ∷ (codes "point", decimal (length c.body.key.point)) ∷ (codes "extensions", size_or_none c.body.extensions)
    ∷ (codes "signature", decimal (length c.signature)) ∷ []

abbrev pub fields_of : Cert → List Field
fields_of c = names_of c.body ++ dates_of c.body ++ key_of c

-- ---- an input

-- where the object lies that was refused
abbrev pub place_text : CvcRefusal → List ℕ
place_text (refusals.Object offset fault) = codes " at " ++ decimal offset
place_text other = []

abbrev pub refused_text : CvcRefusal → List ℕ
refused_text refusal = codes "refused " ++ decimal (refusal_number refusal) ++ place_text refusal ++ 10 ∷ []

abbrev pub shown : Result Cert CvcRefusal → List ℕ
shown (Ok c) = fields_text (fields_of c)
shown (Err refusal) = refused_text refusal

abbrev pub show_text : List ℕ → List ℕ
show_text bytes = shown (read_cert bytes)
