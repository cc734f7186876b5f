-- The stored form of a row's part: data objects in a fixed order for each table, and nothing behind them (this
-- project's own).
use Rattle.std.specs.Prelude.{◌≡◌, ℕ, ◌≤◌, List, [], ◌∷◌, ◌++◌, length, Option, Some, None, IfSome, IsTrue}
use Rattle.tlv_core.specs.Object.{object}
use Rattle.holder_reference.specs.Reference.{is_reference, is_holder}
use Rattle.cv_dates.specs.Calendar.{date_of, last_day}
use Rattle.chat_rights.specs.Kinds.{rights_fit}
use Rattle.chat_rights.specs.Template.{template_text}
use Rattle.signature_provider.specs.declared.key.Key.{Key}
use Rattle.keeper.specs.declared.rows.Table.{Table}
use Rattle.keeper.specs.declared.rows.Part.{Part}
use Rattle.keeper.specs.declared.rows.Part.TheVariants as parts
use Rattle.keeper.specs.declared.rows.Settled.{Settled}
use Rattle.keeper.specs.declared.rows.OwnPart.{OwnPart}
use Rattle.keeper.specs.Rows.{table_of, IsStorablePart}

-- ---- the text

-- The arc and the last number of the algorithm, the domain, the point and the cofactor.
abbrev pub key_text : Key → List ℕ
key_text k = object 0x81 (k.algorithm.arc ∷ k.algorithm.last ∷ [])
    ++ (object 0x82 k.domain ++ (object 0x83 k.point ++ object 0x84 k.cofactor))

-- The effective and the expiration date.
abbrev pub dates_text : ℕ → ℕ → List ℕ
dates_text from until = object 0x89 (date_of from) ++ object 0x8a (date_of until)

-- The certificate, its issuer, its template's content and its dates.
abbrev pub settled_text : Settled → List ℕ
settled_text s = object 0x86 s.certificate ++ (object 0x87 s.issuer
    ++ (object 0x88 (template_text s.template) ++ dates_text s.from s.until))

abbrev pub if_settled : Option Settled → List ℕ
if_settled None = []
if_settled (Some s) = settled_text s

-- The request stands in front, and an own row's authority between its key and its certificate.
abbrev pub stored_text : Part → List ℕ
stored_text (parts.Register request day) = object 0x80 request ++ object 0x8b day
stored_text (parts.Issued p) = object 0x80 p.request ++ (key_text p.key ++ settled_text p.settled)
stored_text (parts.Own p) =
    object 0x80 p.request ++ (key_text p.key ++ (object 0x85 p.authority ++ if_settled p.settled))
stored_text (parts.Ca p) = key_text p.key ++ settled_text p.settled

-- ---- what a part's values are

pub record IsLegalSettled (s : Settled) : Type 0 where
  pub issuer : IsTrue (is_reference s.issuer)
  pub template : IsTrue (rights_fit s.template.kind s.template.rights)
  pub from : s.from ≤ last_day
  pub until : s.until ≤ last_day

pub record IsLegalOwn (p : OwnPart) : Type 0 where
  pub authority : IsTrue (is_holder p.authority)
  pub settled : IfSome p.settled IsLegalSettled

-- references, templates and days are such, and a registered day has its six bytes
abbrev pub IsLegalPart : Part → Type 0
IsLegalPart (parts.Register request day) = length day ≡ 6
IsLegalPart (parts.Issued p) = IsLegalSettled p.settled
IsLegalPart (parts.Own p) = IsLegalOwn p
IsLegalPart (parts.Ca p) = IsLegalSettled p.settled

-- The bytes are the stored form of this part, which is one of this table and may be stored.
pub record IsStored (table : Table) (part : Part) (body : List ℕ) : Type 0 where
  pub table_is : table_of part ≡ table
  pub storable : IsStorablePart part
  pub legal : IsLegalPart part
  pub spelling : body ≡ stored_text part
