-- The issued rows of a desk as its ledger (this project's own).
use Rattle.std.specs.Prelude.{◌≡◌, ◌&&◌, ℕ, Bool, List, [], ◌∷◌, ◌++◌, Option, Some, None, Result, Ok, Err, IfSome, false, not}
use Rattle.std.specs.List.{find, list_any}
use Rattle.std.specs.Str.{bytes_eq}
use Rattle.cvc_grammar.specs.declared.request.Request.{Request}
use Rattle.cvc_grammar.specs.declared.certificate.Cert.{Cert}
use Rattle.cvc_grammar.specs.declared.certificate.CertBody.{CertBody}
use Rattle.cvc_grammar.specs.declared.refusal.CvcRefusal.{CvcRefusal}
use Rattle.keeper.specs.declared.rows.Row.{Row}
use Rattle.keeper.specs.declared.rows.Settled.{Settled}
use Rattle.keeper.specs.declared.rows.IssuedPart.{IssuedPart}
use Rattle.keeper.specs.declared.rows.Part.{Part}
use Rattle.keeper.specs.declared.rows.Part.TheVariants.{Register, Issued, Own, Ca}
use Rattle.keeper.specs.declared.rows.Table.TheVariants as table
use Rattle.keeper.specs.Rows.{rows_of}
use Rattle.ledger.specs.Ledger.{faces, kept_for, IsUnused}
use Rattle.issue_core.specs.Issuing.Readings.{request_of, number_of, cert_of}
use Rattle.issue_core.specs.Issuing.Desk.{issuing, IssueEntries}

-- ---- the entries

-- the entry of an issued row
abbrev pub entry_in : Part → IssueEntries
entry_in (Issued p) = record { query = p.request; product = p.settled.certificate } ∷ []
entry_in (Register r d) = []
entry_in (Own p) = []
entry_in (Ca p) = []

abbrev pub entries_in : List Row → IssueEntries
entries_in [] = []
entries_in (row ∷ rows) = entry_in row.part ++ entries_in rows

abbrev pub issued_rows : ℕ → List Row → List Row
issued_rows desk rows = rows_of table.Issued desk rows

-- what the issued rows of a desk keep
abbrev pub entries_at : ℕ → List Row → IssueEntries
entries_at desk rows = entries_in (issued_rows desk rows)

-- ---- rows that can be read again

abbrev pub settled_of : List ℕ → CertBody → Settled
settled_of bytes body = record { certificate = bytes; issuer = body.authority; template = body.template; from = body.from; until = body.until }

-- what is settled is a certificate, with its authority reference, template and dates
pub record IsSettled (settled : Settled) : Type 0 where
  pub cert : Cert
  pub read : cert_of settled.certificate ≡ Ok cert
  pub fields : settled ≡ settled_of settled.certificate cert.body

-- an issued row has its request's holder reference, and its key with domain and cofactor
pub record IsReadable (reference : List ℕ) (part : IssuedPart) : Type 0 where
  pub asked : Request
  pub read : request_of part.request ≡ Ok asked
  pub reference_is : reference ≡ asked.body.holder
  pub key_is : part.key ≡ asked.body.key
  pub settled : IsSettled part.settled

abbrev pub ReadablePart : List ℕ → Part → Type 0
ReadablePart reference (Issued p) = IsReadable reference p
ReadablePart reference (Register r d) = Unit {0}
ReadablePart reference (Own p) = IfSome p.settled IsSettled
ReadablePart reference (Ca p) = IsSettled p.settled

-- what rows keep of requests and certificates can be read again
abbrev pub AreReadable : List Row → Type 0
AreReadable [] = Unit {0}
AreReadable (row ∷ rows) = ReadablePart row.reference row.part × AreReadable rows

-- ---- the row that a delivery adds

-- the certificate with what is settled by it, the request, and the request's reference and key
abbrev pub row_for : (desk : ℕ) → (bytes certificate : List ℕ) → Result Request CvcRefusal → Result Cert CvcRefusal → List Row
row_for desk bytes certificate (Ok r) (Ok cert) = record { desk = desk; reference = r.body.holder; part = Issued (record { request = bytes; key = r.body.key; settled = settled_of certificate cert.body }) } ∷ []
row_for desk bytes certificate (Ok r) (Err e) = []
row_for desk bytes certificate (Err e) cert = []

abbrev pub left_row : (desk : ℕ) → (bytes : List ℕ) → Option (List ℕ) → List Row
left_row desk bytes None = []
left_row desk bytes (Some certificate) = row_for desk bytes certificate (request_of bytes) (cert_of certificate)

-- ---- issued rows by themselves

abbrev pub has_reference : List ℕ → Row → Bool
has_reference reference row = bytes_eq row.reference reference

pub record IsIssued (row : Row) : Type 0 where
  pub kept : IssuedPart
  pub part_is : row.part ≡ Issued kept
  pub readable : IsReadable row.reference kept

-- issued rows, no two with one reference
abbrev pub AreIssued : List Row → Type 0
AreIssued [] = Unit {0}
AreIssued (row ∷ rows) = IsIssued row × (find (has_reference row.reference) rows ≡ None) × AreIssued rows

-- a request whose reference no entry has
pub record NoEntry (es : IssueEntries) (bytes reference : List ℕ) : Type 0 where
  pub kept : kept_for issuing es bytes ≡ None
  pub used : list_any (λ e. bytes_eq (number_of e.0) reference && not (bytes_eq e.0 bytes)) (faces issuing es) ≡ false
  pub number : IsUnused issuing es reference
