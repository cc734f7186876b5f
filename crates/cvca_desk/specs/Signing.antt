-- What an authority signs for a certificate of its own (this project's own).
use Rattle.std.specs.Prelude.{◌≡◌, ◌⊎◌, ℕ, List, [], ◌∷◌, ◌++◌, Option, Some, None, Result, Ok, Err}
use Rattle.signature_provider.specs.Provider.{Says, Holds, Signed, MakesKey}
use Rattle.signature_provider.specs.declared.key.Key.{Key}
use Rattle.cvc_grammar.specs.Certificate.{IsCert}
use Rattle.cvc_grammar.specs.declared.certificate.Cert.{Cert}
use Rattle.keeper.specs.declared.rows.Row.{Row}
use Rattle.holder_core.specs.Readings.{cert_message}
use Rattle.holder_core.specs.Signing.{Pair, SignsMore}
use Rattle.holder_core.specs.declared.fault.HolderFault.{HolderFault}
use Rattle.holder_core.specs.declared.fault.HolderFault.TheVariants as fault
use Rattle.cvca_desk.specs.declared.due.Due.{Due}
use Rattle.cvca_desk.specs.OwnCertificate.{signing_key, own_body, own_row, IsOwnCertificate}

-- the key that signs and the body that is due
abbrev pub own_pair : Due → Key → Pair
own_pair d key = (signing_key key d.by, cert_message (own_body d key))

-- That body was signed, for a key that was made for it.
pub record SignsPair (held holds : Holds) (signed : Signed × Signed) (d : Due) : Type 0 where
  pub key : Key
  pub made : MakesKey held holds d.form key
  pub more : SignsMore signed (own_pair d key ∷ [])

-- The certificate was made, and its body was signed.
pub record SignsNew (says : Says) (held holds : Holds) (signed : Signed × Signed) (d : Due) : Type 0 where
  pub key : Key
  pub bytes : List ℕ
  pub certificate : IsOwnCertificate says held holds d key bytes
  pub more : SignsMore signed (own_pair d key ∷ [])

-- Nothing was signed, and with an answer no key was made either.
abbrev pub SignsNothing : {A : Type 0} → (held holds : Holds) → Signed × Signed → Result A HolderFault → Type 0
SignsNothing held holds signed (Ok answer) = (holds ≡ held) × (signed.1 ≡ signed.0)
SignsNothing held holds signed (Err f) = signed.1 ≡ signed.0

-- ---- where rows are told

-- A row was added, and what was signed is the body of the certificate that it keeps.
pub record SignsKept (held holds : Holds) (signed : Signed × Signed) (desk : ℕ) (due : Option Due) (before after : List Row) : Type 0 where
  pub d : Due
  pub due_is : due ≡ Some d
  pub pair : SignsPair held holds signed d
  pub bytes : List ℕ
  pub cert : Cert
  pub text : IsCert cert bytes
  pub body : cert.body ≡ own_body d pair.key
  pub rows : after ≡ before ++ own_row desk d bytes pair.key ∷ []

-- What was signed may have no row where the keeper failed, where memory was wanting, and where a row of its reference
-- was there: then this is the answer.
abbrev pub MayLose : {A : Type 0} → (late : Option A) → Result A HolderFault → Type 0
MayLose late (Ok answer) = late ≡ Some answer
MayLose late (Err fault.KeeperFault) = Unit {0}
MayLose late (Err fault.NoMemory) = Unit {0}
MayLose late (Err fault.ProviderFault) = ⊥
MayLose late (Err (fault.NoKey reference)) = ⊥

-- What was signed has no row. It was due: no refusal comes before it.
pub record SignsLost {A : Type 0} (unwritten late : Option A) (held holds : Holds) (signed : Signed × Signed) (due : Option Due) (result : Result A HolderFault) : Type 0 where
  pub allowed : unwritten ≡ None
  pub d : Due
  pub due_is : due ≡ Some d
  pub pair : SignsPair held holds signed d
  pub may : MayLose late result

-- one call: a row with what was signed, or no row, and nothing was signed or it is lost
abbrev pub SignsOwn : {A : Type 0} → (unwritten late : Option A) → (held holds : Holds) → Signed × Signed → ℕ → Option Due → (before after : List Row) → Result A HolderFault → Type 0
SignsOwn unwritten late held holds signed desk due before after result =
    SignsKept held holds signed desk due before after
    ⊎ ((after ≡ before) × (SignsNothing held holds signed result ⊎ SignsLost unwritten late held holds signed due result))
