-- The making of an own certificate and the adding of its row, step by step (this project's own).
use Rattle.std.specs.Prelude.{◌≡◌, ◌⊎◌, ℕ, ◌≤◌, List, [], ◌∷◌, ◌++◌, length, Option, Some, None, Result, Ok, Err, true}
use Rattle.signature_provider.specs.Provider.{Says, Holds, Signed, MakesKey}
use Rattle.signature_provider.specs.declared.key.Key.{Key}
use Rattle.cvc_grammar.specs.Certificate.{IsCert}
use Rattle.cvc_grammar.specs.declared.certificate.Cert.{Cert}
use Rattle.cvc_grammar.specs.declared.certificate.CertBody.{CertBody}
use Rattle.keeper.specs.declared.rows.Row.{Row}
use Rattle.keeper.specs.declared.rows.Table.TheVariants as table
use Rattle.keeper.specs.Rows.{row_at, most_rows}
use Rattle.keeper.specs.Keeping.{MayAdd}
use Rattle.holder_core.specs.Readings.{cert_message}
use Rattle.holder_core.specs.OwnRows.{own_rows}
use Rattle.holder_core.specs.Signers.{Signer, missing_of}
use Rattle.holder_core.specs.Signing.{SignsMore}
use Rattle.holder_core.specs.declared.adding.Added.{Added}
use Rattle.holder_core.specs.declared.adding.Added.TheVariants as added
use Rattle.holder_core.specs.declared.fault.HolderFault.{HolderFault}
use Rattle.holder_core.specs.declared.fault.HolderFault.TheVariants as fault
use Rattle.cvca_desk.specs.declared.due.Due.{Due}
use Rattle.cvca_desk.specs.declared.making.MadeOwn.{MadeOwn}
use Rattle.cvca_desk.specs.OwnCertificate.{signing_key, own_row, IsOwnCertificate}
use Rattle.cvca_desk.specs.Signing.{own_pair, SignsPair, SignsNew}

-- ---- a body is certified

-- a certificate of this body, signed by this row or by its own key
pub record IsCertified (says : Says) (holds : Holds) (by : Option Signer) (b : CertBody) (bytes : List ℕ) : Type 0 where
  pub cert : Cert
  pub text : IsCert cert bytes
  pub body : cert.body ≡ b
  pub good : says (signing_key b.key by) (cert_message b) cert.signature ≡ true
  pub signs : holds (signing_key b.key by) ≡ true

-- The body was signed where it was certified. Where memory was wanting it may have been; after another fault it wasn't.
abbrev pub SignsBody : {T : Type 0} → Signed × Signed → Option Signer → CertBody → Result T HolderFault → Type 0
SignsBody signed by b (Ok x) = SignsMore signed ((signing_key b.key by, cert_message b) ∷ [])
SignsBody signed by b (Err fault.NoMemory) = (signed.1 ≡ signed.0) ⊎ SignsMore signed ((signing_key b.key by, cert_message b) ∷ [])
SignsBody signed by b (Err fault.ProviderFault) = signed.1 ≡ signed.0
SignsBody signed by b (Err (fault.NoKey reference)) = signed.1 ≡ signed.0
SignsBody signed by b (Err fault.KeeperFault) = signed.1 ≡ signed.0

-- ---- a certificate is made

-- the certificate, and that its body was signed
pub record IsMadeOwn (says : Says) (held holds : Holds) (signed : Signed × Signed) (d : Due) (made : MadeOwn) : Type 0 where
  pub certificate : IsOwnCertificate says held holds d made.key made.text
  pub more : SignsMore signed (own_pair d made.key ∷ [])

abbrev pub Makes : Says → Holds → Holds → Signed × Signed → Due → Result MadeOwn HolderFault → Type 0
Makes says held holds signed d (Ok made) = IsMadeOwn says held holds signed d made
Makes says held holds signed d (Err fault.NoMemory) = (signed.1 ≡ signed.0) ⊎ SignsPair held holds signed d
Makes says held holds signed d (Err fault.ProviderFault) = signed.1 ≡ signed.0
Makes says held holds signed d (Err (fault.NoKey reference)) = signed.1 ≡ signed.0
Makes says held holds signed d (Err fault.KeeperFault) = ⊥

-- ---- its row is added

pub record HasEntered (says : Says) (held holds : Holds) (signed : Signed × Signed) (desk : ℕ) (d : Due) (before after : List Row) : Type 0 where
  pub made : MadeOwn
  pub is_made : IsMadeOwn says held holds signed d made
  pub may : MayAdd before (own_row desk d made.text made.key)
  pub rows : after ≡ before ++ own_row desk d made.text made.key ∷ []

-- What was signed has no row: a row of its reference was there, or no room.
pub record IsThere (held holds : Holds) (signed : Signed × Signed) (desk : ℕ) (d : Due) (kept : Row) (before after : List Row) : Type 0 where
  pub pair : SignsPair held holds signed d
  pub there : row_at table.Own desk d.reference before ≡ Some kept
  pub rows : after ≡ before

pub record IsFull (held holds : Holds) (signed : Signed × Signed) (desk : ℕ) (d : Due) (before after : List Row) : Type 0 where
  pub pair : SignsPair held holds signed d
  pub full : most_rows ≤ length (own_rows desk before)
  pub rows : after ≡ before

abbrev pub Enters : Says → Holds → Holds → Signed × Signed → ℕ → Due → List Row → List Row → Result Added HolderFault → Type 0
Enters says held holds signed desk d before after (Ok added.New) = HasEntered says held holds signed desk d before after
Enters says held holds signed desk d before after (Ok (added.There kept)) = IsThere held holds signed desk d kept before after
Enters says held holds signed desk d before after (Ok added.Full) = IsFull held holds signed desk d before after
Enters says held holds signed desk d before after (Err fault.KeeperFault) =
    HasEntered says held holds signed desk d before after ⊎ ((after ≡ before) × SignsPair held holds signed d)
Enters says held holds signed desk d before after (Err fault.NoMemory) = (after ≡ before) × ((signed.1 ≡ signed.0) ⊎ SignsPair held holds signed d)
Enters says held holds signed desk d before after (Err fault.ProviderFault) = (after ≡ before) × (signed.1 ≡ signed.0)
Enters says held holds signed desk d before after (Err (fault.NoKey reference)) =
    (after ≡ before) × (signed.1 ≡ signed.0) × (missing_of held d.by ≡ Some reference)

-- for every keeper
abbrev pub AsksAdded : Says → Holds → Holds → Signed × Signed → Due → Result Added HolderFault → Type 0
AsksAdded says held holds signed d (Ok added.New) = SignsNew says held holds signed d
AsksAdded says held holds signed d (Ok (added.There kept)) = SignsPair held holds signed d
AsksAdded says held holds signed d (Ok added.Full) = SignsPair held holds signed d
AsksAdded says held holds signed d (Err fault.KeeperFault) = SignsPair held holds signed d
AsksAdded says held holds signed d (Err fault.NoMemory) = (signed.1 ≡ signed.0) ⊎ SignsPair held holds signed d
AsksAdded says held holds signed d (Err fault.ProviderFault) = signed.1 ≡ signed.0
AsksAdded says held holds signed d (Err (fault.NoKey reference)) = (signed.1 ≡ signed.0) × (missing_of held d.by ≡ Some reference)
